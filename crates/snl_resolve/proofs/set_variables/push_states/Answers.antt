use Rattle.std.proofs.Common.{map, refl}
use Rattle.std.specs.List.{flat_map}
use Rattle.snl_syntax.specs.view.Programs.{state_view}
use Rattle.snl_names.specs.Chains.{scopes_of}
use Rattle.snl_names.specs.CopyVariables.{variable_view}
use Rattle.snl_names.specs.Variables.{by_state}
use Rattle.snl_resolve.proofs.Steps.{row_step}
use Rattle.snl_resolve.proofs.set_variables.push_states.Goals as goal

pub loop-state-preserved : goal.loop-state-preserved
loop-state-preserved c =
    let s = scopes_of c.args.outer.now in
    row_step (λ x. by_state s (state_view x)) (λ l. flat_map (by_state s) (map state_view l)) (λ x xs. refl)
    c.args.states.now c.loop-state.state-index c.state-item.result (map variable_view c.loop-state.kept.items) (map variable_view c.push_state.new.kept.items) _
    c.loop-state-test.true c.state-item.is c.loop-state.invariant c.in_ok-push_state.ensures
