use Rattle.std.proofs.Common.{◌≡◌, ◌++◌, map, drop}
use Rattle.std.specs.List.{flat_map}
use Rattle.snl_syntax.specs.view.Programs.{state_view}
use Rattle.snl_names.specs.Chains.{scopes_of}
use Rattle.snl_channels.specs.Links.{said_in_state}
use Rattle.snl_channels.specs.LinkViews.{said_view}
use Rattle.snl_channels.proofs.said.push_states.Given as goal

abbrev pub invariant-loop-state : goal.invariant-loop-state
invariant-loop-state l =
    map said_view l.said.items ++ flat_map (said_in_state (scopes_of l.outer)) (map state_view (drop l.state-index l.states))
    ≡ map said_view l.initial.said.items ++ flat_map (said_in_state (scopes_of l.outer)) (map state_view l.states)
