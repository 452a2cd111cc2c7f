use Rattle.std.proofs.Common.{map, refl}
use Rattle.std.specs.List.{flat_map}
use Rattle.snl_syntax.specs.view.Definitions.{definition_view}
use Rattle.snl_syntax.specs.view.Programs.{state_view}
use Rattle.snl_copies.specs.Tests.{in_state_to}
use Rattle.snl_resolve.proofs.Steps.{row_step}
use Rattle.snl_copies.proofs.Rows.{row_ends}
use Rattle.snl_copies.proofs.unwritten.push_states_to.Goals as goal

pub loop-state-init : goal.loop-state-init
loop-state-init c = refl

pub loop-state-preserved : goal.loop-state-preserved
loop-state-preserved c =
    let one = in_state_to (map definition_view c.args.definitions.now) c.args.way.now.state.now c.args.way.now.uses.now c.args.way.now.copy.now in
    row_step (λ x. one (state_view x)) (λ l. flat_map one (map state_view l)) (λ x xs. refl)
    c.args.states.now c.loop-state.state-index c.state-item.result c.loop-state.found.items c.push_state_to.new.found.items _
    c.loop-state-test.true c.state-item.is c.loop-state.invariant c.in_ok-push_state_to.ensures

pub returns : goal.returns
returns c =
    let one = in_state_to (map definition_view c.args.definitions.now) c.args.way.now.state.now c.args.way.now.uses.now c.args.way.now.copy.now in
    row_ends (λ l. flat_map one (map state_view l)) refl c.args.states.now c.loop-state.state-index _ _ c.loop-state-test.false c.loop-state.invariant
