use Rattle.std.proofs.Common.{◌≡◌, ◌∙◌, ◌+◌, ◌<◌, ◌-◌, ◌^◌, Bool, List, ap, arith, length, map, refl, subst, sym}
use Rattle.snl_syntax.specs.Programs.{ProgramTree}
use Rattle.snl_syntax.specs.view.Programs.{program_view}
use Rattle.snl_channels.specs.Links.{Link}
use Rattle.snl_channels.specs.LinkViews.{link_view}
use Rattle.snl_flat.specs.declared.code.Code.{Code}
use Rattle.snl_load.specs.First.{first_world}
use Rattle.snl_load.specs.Places.{homes_in}
use Rattle.snl_load.specs.Right.{IsLoadedOf}
use Rattle.snl_schedule.specs.declared.plans.Plan.{Plan}
use Rattle.snl_load.specs.Sets.{names_in}
use Rattle.snl_load.proofs.Meant.{plans_are_right}
use Rattle.snl_machine.specs.Holding.{loaded_by}
use Rattle.snl_machine.proofs.AsLoaded.{loaded-is, first-is}
use Rattle.snl_machine.proofs.Worlds as worlds
use Rattle.snl_machine.proofs.making.machine_by.Goals as goal
use Rattle.snl_flat.specs.Starts.{table_of, holds_in}
use Rattle.snl_machine.proofs.Reached.{first_are_reached, reached_are_closed}
use Rattle.snl_machine.specs.Reached.{AreReached}
use Rattle.snl_machine.specs.Worlds.{IsWorldOf}
use Rattle.snl_meaning.specs.declared.functions.FunctionEntry.{FunctionEntry}
use Rattle.snl_vm.specs.Footprint.{store_words}
use Rattle.snl_vm.specs.Stack.{Room, room_for, room_of}
use Rattle.snl_vm.specs.Views.{world_of}
use Rattle.snl_meaning.specs.World.{World}

-- the room that was made is that of the code
pub invariant_of-result : goal.invariant_of-result
invariant_of-result c =
    let p = program_view c.args.program.now in
    let ls = map link_view c.args.links.now in
    let code = c.args.code in
    let plan = c.in_ok-plan.plan in
    let calls = ap (length {A = FunctionEntry}) c.functions-calls.ensures in
    let room : room_of c.in_ok-made.made.memory.operands ≡ room_for code.depth (length code.functions.items) = c.in_ok-made.ensures.room ∙ (λ j. room_for (c.depth-depth.ensures j) (calls j)) in
    let deep = ap (λ (r : Room). r.operands) room in
    let counted : code.depth < 2 ^ 64 - 1 = omega (arith, deep, c.in_ok-made.made.memory.operands.items.small) in
    let is = loaded-is p ls ls c.args.waits code plan refl c.in_ok-plan.ensures c.requires.code c.requires.inside c.requires.short counted in
    let words = c.in_ok-made.ensures.words ∙ ap (λ (r : Room). store_words c.in_ok-made.made.memory.store + (r.operands + r.places)) (sym c.in_ok-made.ensures.room) in
    let formats = c.in_ok-formats.ensures ∙ ap (map (λ text. text.items)) c.texts.ensures in
    rw c.in_ok-code.ensures (record { words = words; room = room; formats_are = formats; runs = (plans_are_right p ls c.args.waits code (loaded_by plan code) is).1 })

-- what is loaded with a code is so with the same code
loaded-so : (p : ProgramTree) (ls : List Link) (waits : Bool) (plan : Plan) (made code : Code) → made ≡ code → IsLoadedOf p ls waits code (loaded_by plan code) →
    IsLoadedOf p ls waits made (loaded_by plan made)
loaded-so p ls waits plan made code same is = subst (λ (k : Code). IsLoadedOf p ls waits k (loaded_by plan k)) (sym same) is

-- and what is reached by it
reached-so : (p : ProgramTree) (w : World) (made code : Code) → made ≡ code → AreReached p (holds_in (table_of code)) w → AreReached p (holds_in (table_of made)) w
reached-so p w made code same is = subst (λ (k : Code). AreReached p (holds_in (table_of k)) w) (sym same) is

pub returns-clause-made : goal.returns-clause-made
returns-clause-made c =
    let p = program_view c.args.program.now in
    let ls = map link_view c.args.links.now in
    let code = c.args.code in
    let plan = c.in_ok-plan.plan in
    let names = names_in c.in_ok-names.names in
    let deep = ap (λ (r : Room). r.operands) c.in_ok-made.ensures.room ∙ c.depth-depth.ensures in
    let counted : code.depth < 2 ^ 64 - 1 = omega (arith, deep, c.in_ok-made.made.memory.operands.items.small) in
    let flags = c.len.ensures ∙ ap length c.requires.flags in
    let ties = c.as_slice-ties.result.now in
    let store = c.in_ok-made.ensures.store ∙ (λ j. first_world (c.requires.held j) (c.requires.shared j) (flags j) names ties (homes_in c.args.copies.now.places.items ls) ls) in
    let first = first-is p ls ls c.args.waits code plan refl c.in_ok-plan.ensures _ _ _ _ c.in_ok-names.ensures c.as_slice-ties.ensures.value c.requires.places store in
    record {
      links_are = c.requires.links;
      loaded = loaded-so p ls c.args.waits plan _ code c.in_ok-code.ensures
          (loaded-is p ls ls c.args.waits code plan refl c.in_ok-plan.ensures c.requires.code c.requires.inside c.requires.short counted);
      channels_are = c.in_ok-names.ensures;
      world_is = subst (λ (w : World). IsWorldOf p ls w) (sym first) (worlds.first_world p ls);
      reached = reached-so p (world_of c.in_ok-made.made.memory.store) _ code c.in_ok-code.ensures
          (subst (λ (w : World). AreReached p (holds_in (table_of code)) w) (sym first)
          (first_are_reached p ls (holds_in (table_of code)) (reached_are_closed p (holds_in (table_of code)) c.requires.code.reached)));
      budget_is = refl;
    }

pub returns-clause-first : goal.returns-clause-first
returns-clause-first c =
    let p = program_view c.args.program.now in
    let ls = map link_view c.args.links.now in
    let names = names_in c.in_ok-names.names in
    let flags = c.len.ensures ∙ ap length c.requires.flags in
    let ties = c.as_slice-ties.result.now in
    let store = c.in_ok-made.ensures.store ∙ (λ j. first_world (c.requires.held j) (c.requires.shared j) (flags j) names ties (homes_in c.args.copies.now.places.items ls) ls) in
    first-is p ls ls c.args.waits c.args.code c.in_ok-plan.plan refl c.in_ok-plan.ensures _ _ _ _ c.in_ok-names.ensures c.as_slice-ties.ensures.value c.requires.places store
