-- What `run` answers of a source, by what the rules say of it and by what its run told.
use Rattle.std.proofs.Common.{◌≡◌, ◌∙◌, ℕ, Bool, true, false, List, Option, None, Some, Box, Global, ap, refl, subst, sym}
use Rattle.std.specs.Prelude.{not}
use Rattle.snl_syntax.specs.Programs.{ProgramTree}
use Rattle.snc.specs.Answered.{IsAnswered}
use Rattle.snl_channels.specs.Links.{Link, links}
use Rattle.snl_load.specs.First.{first_world_of}
use Rattle.snl_machine.specs.MachineOf.{IsMachineOf, world_held}
use Rattle.snl_meaning.specs.World.{World}
use Rattle.snl_names.specs.declared.options.Options.{Options}
use Rattle.snl_output.specs.Devices.{counted}
use Rattle.snl_trace.specs.declared.runner.End.{End}
use Rattle.snc.specs.Runs.{EndsAt, RunsLike, RunsWith}
use Rattle.snc.proofs.RunLaws.{runs-like}
use Rattle.snl_views.specs.Staged.{IsBoxedStage}
use Rattle.snl_views.specs.declared.preparing.Prepared.{Prepared}
use Rattle.snl_views.specs.declared.staging.Stage.{Stage}
use Rattle.snl_views.proofs.Answered.{accepted, refused}

-- a sink failed once, in the run or behind it, exactly if not all was taken
pub failed-once : (failed is_whole : Bool) (before ran after : ℕ) → (failed ≡ true → is_whole ≡ false) → ran ≡ counted failed before → (failed ≡ true → after ≡ ran) →
    (failed ≡ false → after ≡ counted (not is_whole) ran) → after ≡ counted (not is_whole) before
failed-once true is_whole before ran after so is stays more = stays refl ∙ is ∙ ap (λ (b : Bool). counted (not b) before) (sym (so refl))
failed-once false is_whole before ran after so is stays more = more refl ∙ ap (counted (not is_whole)) is

-- the same, of what was prepared, by another name of it
pub runs-like-as : (before started : Prepared) (world : World) (gave : List ℕ) (ended : Bool) (old told old' told' : Option (List ℕ)) (end : End) →
    started ≡ before → old ≡ told → old' ≡ told' →
    ((p : ProgramTree) (ls : List Link) (waits : Bool) (budget : ℕ) → IsMachineOf p ls waits budget started.machine →
    EndsAt p ls waits budget (world_held started.machine) gave ended old old' end world) →
    (p : ProgramTree) (ls : List Link) (budget : ℕ) → IsMachineOf p ls before.waits budget before.machine →
    RunsLike p ls before.waits budget (world_held before.machine) gave ended told told' end
runs-like-as before started world gave ended old told old' told' end same is is' means =
    subst (λ (q : Prepared). (p : ProgramTree) (ls : List Link) (budget : ℕ) → IsMachineOf p ls q.waits budget q.machine →
    RunsLike p ls q.waits budget (world_held q.machine) gave ended told told' end) same
    (λ p ls budget made. runs-like p ls started.waits budget (world_held started.machine) world gave ended old told old' told' end is is'
    (means p ls started.waits budget made))

module _ (given : Options) (word macros source text : List ℕ) (budget : ℕ) (gave : List ℕ) (ended : Bool) (told told' : Option (List ℕ)) (made : Option (Box Stage Global)) where
  -- a source with an error
  pub refused-run : made ≡ None → IsAnswered (IsBoxedStage macros budget) given word source text made →
      IsAnswered (RunsWith macros budget gave ended told told') given word source text None
  refused-run = refused (IsBoxedStage macros budget) (RunsWith macros budget gave ended told told') given word source text made

  -- a program that was run, lent out of its box
  pub accepted-run : (stage : Box Stage Global) (lent : Stage) (end : End) → made ≡ Some stage → lent ≡ stage.value → IsAnswered (IsBoxedStage macros budget) given word source text made →
      ((p : ProgramTree) (ls : List Link) (b : ℕ) → IsMachineOf p ls lent.prepared.waits b lent.prepared.machine →
      RunsLike p ls lent.prepared.waits b (world_held lent.prepared.machine) gave ended told told' end) →
      IsAnswered (RunsWith macros budget gave ended told told') given word source text (Some end)
  accepted-run stage lent end some same is lent_said =
      let said = subst (λ (q : Stage). (p : ProgramTree) (ls : List Link) (b : ℕ) → IsMachineOf p ls q.prepared.waits b q.prepared.machine →
      RunsLike p ls q.prepared.waits b (world_held q.prepared.machine) gave ended told told' end) same lent_said in
      accepted (IsBoxedStage macros budget) (RunsWith macros budget gave ended told told') given word source text made stage end some is
      (λ whole options staged.
      let ls = links whole macros in
      subst (λ (b : Bool). RunsLike whole ls b budget (first_world_of whole ls) gave ended told told' end) staged.waits
      (subst (λ (f : World). RunsLike whole ls stage.value.prepared.waits budget f gave ended told told' end) staged.first (said whole ls budget staged.machine)))
