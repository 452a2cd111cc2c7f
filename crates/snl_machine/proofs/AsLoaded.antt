-- A plan and its code, as they are loaded.
use Rattle.std.proofs.Common.{◌≡◌, ◌∙◌, ◌<◌, ◌≤◌, ◌-◌, ◌^◌, ℕ, Bool, List, Result, Ok, Err, IfOk, refl, ap, length}
use Rattle.snl_syntax.specs.Programs.{ProgramTree}
use Rattle.snl_flat.specs.declared.code.Code.{Code}
use Rattle.snl_flat.specs.Inside.{IsInside}
use Rattle.snl_flat.specs.Pieces.{IsCodeOf}
use Rattle.snl_flat.specs.Size.{program_size}
use Rattle.snl_flat.specs.Starts.{table_of, holds_in}
use Rattle.snl_channels.specs.Links.{Link, links}
use Rattle.snl_meaning.specs.World.{World}
use Rattle.snl_meaning.specs.declared.ties.Tied.{Tied}
use Rattle.snl_schedule.specs.declared.plans.Plan.{Plan}
use Rattle.snl_flat.specs.Copies.{held_sets}
use Rattle.snl_names.specs.Variables.{shared_variables}
use Rattle.snl_load.specs.First.{first_world, first_world_of}
use Rattle.snl_meaning.specs.declared.names.Placed.{Placed}
use Rattle.snl_load.specs.Places.{channels, flags_in, placed_sets, homes_in}
use Rattle.snl_load.specs.Plans.{PlainPlan, plan_view, program_plan}
use Rattle.snl_load.specs.Right.{IsLoadedOf}
use Rattle.snl_machine.specs.declared.machine.Machine.{Machine}
use Rattle.snl_machine.specs.Holding.{loaded_by}
use Rattle.snl_machine.specs.Loading.{IsLoaded}
use Rattle.snl_machine.specs.MachineOf.{IsMachineOf, world_held}
use Rattle.snl_machine.proofs.Footprint.{machines_hold_the_footprint}

module _ (p : ProgramTree) (ls given : List Link) (waits : Bool) (code : Code) (plan : Plan) (links-are : given ≡ ls)
    (planned : plan_view plan ≡ program_plan p given waits code.instrs.items (table_of code)) where
  -- the plan is that of the links
  plan-is : plan_view plan ≡ program_plan p ls waits code.instrs.items (table_of code)
  plan-is = planned ∙ ap (λ (l : List Link). program_plan p l waits code.instrs.items (table_of code)) links-are

  -- code and plan of a program, where there was room for the operands
  pub loaded-is : IsCodeOf p code → IsInside p code → length code.instrs.items ≤ program_size (holds_in (table_of code)) p → code.depth < 2 ^ 64 - 1 →
      IsLoadedOf p ls waits code (loaded_by plan code)
  loaded-is right inside short counted =
      record { code_is = right; inside = inside; short = short; code = refl; formats = refl; functions = refl; room = refl; counted = counted; plan = plan-is }

  -- the store is the first one
  pub first-is : (w : World) (names : List (List ℕ)) (ties : List Tied) (copies : List (List Placed)) → names ≡ channels ls → ties ≡ plan.links.items →
      copies ≡ placed_sets p 0 p.state_sets → w ≡ first_world (held_sets p 0 p.state_sets) (shared_variables p) (length (flags_in p)) names ties (homes_in copies given) given → w ≡ first_world_of p ls
  first-is w names ties copies names-are plans copies-are is =
      let ties-are = plans ∙ ap (λ (v : PlainPlan). v.links) plan-is in
      is ∙ (λ j. first_world (held_sets p 0 p.state_sets) (shared_variables p) (length (flags_in p)) (names-are j) (ties-are j) (homes_in (copies-are j) (links-are j)) (links-are j))

-- a machine that is one of a program, in its first world, is loaded
pub both-loaded : {E : Type 0} (r : Result Machine E) (p : ProgramTree) (macros : List ℕ) (waiting : Bool) (budget : ℕ) → IfOk r (IsMachineOf p (links p macros) waiting budget) →
    IfOk r (λ m. world_held m ≡ first_world_of p (links p macros)) → IfOk r (IsLoaded p macros waiting budget)
both-loaded (Ok m) p macros waiting budget made first = record {
  made = made;
  first = first;
  words = machines_hold_the_footprint p (links p macros) waiting budget m made;
}
both-loaded (Err e) p macros waiting budget made first = tt
