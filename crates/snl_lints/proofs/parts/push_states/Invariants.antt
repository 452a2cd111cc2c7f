use Rattle.std.proofs.Common.{◌≡◌, ◌++◌, map, drop}
use Rattle.std.specs.List.{flat_map}
use Rattle.snl_syntax.specs.view.Programs.{state_view}
use Rattle.snl_names.specs.UseTables.{declared_at}
use Rattle.snl_lints.specs.Touches.{in_state}
use Rattle.snl_lints.proofs.parts.push_states.Given as goal

abbrev pub invariant-loop-state : goal.invariant-loop-state
invariant-loop-state l =
    l.found.items ++ flat_map (in_state (declared_at l.uses)) (map state_view (drop l.state-index l.states))
    ≡ l.initial.found.items ++ flat_map (in_state (declared_at l.uses)) (map state_view l.states)
