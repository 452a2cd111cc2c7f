use Rattle.std.proofs.Common.{◌++◌, map, refl, ap, ◌∙◌}
use Rattle.std.specs.List.{flat_map}
use Rattle.snl_syntax.specs.view.Definitions.{definition_view}
use Rattle.snl_syntax.specs.view.Programs.{state_view}
use Rattle.snl_names.specs.Chains.{scopes_of}
use Rattle.snl_resolve.proofs.Steps.{row_step}
use Rattle.snl_channels.specs.Links.{said_in, said_in_state}
use Rattle.snl_channels.specs.LinkViews.{said_view}
use Rattle.snl_channels.proofs.said.push_states.Goals as goal

pub loop-state-preserved : goal.loop-state-preserved
loop-state-preserved c =
    let s = scopes_of c.args.outer.now in
    row_step (λ x. said_in_state s (state_view x)) (λ l. flat_map (said_in_state s) (map state_view l)) (λ x xs. refl)
    c.args.states.now c.loop-state.state-index c.state-item.result (map said_view c.loop-state.said.items) (map said_view c.push_definitions.new.said.items) _
    c.loop-state-test.true c.state-item.is c.loop-state.invariant
    (c.in_ok-push_definitions.ensures.said ∙ ap (λ d. map said_view c.loop-state.said.items ++ said_in s (map definition_view d)) c.as_slice.ensures.value)
