use Rattle.std.proofs.Common.{List, ◌++◌, map, sym, ap, ◌∙◌, append-nil}
use Rattle.std.specs.List.{flat_map}
use Rattle.std.proofs.lemmas.Result.{on_ok_weaker}
use Rattle.snl_syntax.specs.declared.programs.State.{State}
use Rattle.snl_syntax.specs.declared.programs.StateSet.{StateSet}
use Rattle.snl_syntax.specs.view.Definitions.{definition_view}
use Rattle.snl_syntax.specs.view.Programs.{state_view}
use Rattle.snl_resolve.proofs.VariableLaws.{some_set, no_set}
use Rattle.snl_copies.specs.Tests.{in_state_to, in_set_to}
use Rattle.snl_copies.proofs.unwritten.push_set_to.Goals as goal

pub returns : goal.returns
returns c =
    let w = c.args.way.now in
    let defs = map definition_view c.args.definitions.now in
    let before = c.args.found.now.items in
    on_ok_weaker c.push_states_to.result
    (λ e. e
    ∙ ap (λ (l : List State). before ++ flat_map (in_state_to defs w.state.now w.uses.now w.copy.now) (map state_view l)) c.as_slice.ensures.value
    ∙ ap (λ (g : StateSet). before ++ flat_map (in_state_to defs w.state.now w.uses.now w.copy.now) (map state_view g.states.items)) (sym c.index-sets-set.is)
    ∙ ap (λ o. before ++ in_set_to defs w.state.now w.uses.now w.copy.now o)
    (sym (some_set c.args.sets.now c.args.set c.index-sets-set.result c.if-sets-set.false c.index-sets-set.is)))
    c.push_states_to.ensures

pub returns-then-sets-set : goal.returns-then-sets-set
returns-then-sets-set c =
    let w = c.args.way.now in
    let before = c.args.found.now.items in
    sym (append-nil before)
    ∙ ap (λ o. before ++ in_set_to (map definition_view c.args.definitions.now) w.state.now w.uses.now w.copy.now o) (sym (no_set c.args.sets.now c.args.set c.if-sets-set.true))
