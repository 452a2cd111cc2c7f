use Rattle.std.proofs.Common.{◌≡◌, ◌++◌, map, drop}
use Rattle.std.specs.List.{flat_map}
use Rattle.snl_syntax.specs.view.Definitions.{definition_view}
use Rattle.snl_syntax.specs.view.Programs.{state_view}
use Rattle.snl_copies.specs.Tests.{in_state_to}
use Rattle.snl_copies.proofs.unwritten.push_states_to.Given as goal

abbrev pub invariant-loop-state : goal.invariant-loop-state
invariant-loop-state l =
    l.found.items ++ flat_map (in_state_to (map definition_view l.definitions) l.way.state.now l.way.uses.now l.way.copy.now) (map state_view (drop l.state-index l.states))
    ≡ l.initial.found.items ++ flat_map (in_state_to (map definition_view l.definitions) l.way.state.now l.way.uses.now l.way.copy.now) (map state_view l.states)
