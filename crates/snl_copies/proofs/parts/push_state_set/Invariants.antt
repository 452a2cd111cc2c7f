use Rattle.std.proofs.Common.{◌≡◌, ◌++◌, map, drop}
use Rattle.std.specs.List.{flat_map}
use Rattle.snl_syntax.specs.view.Programs.{state_view}
use Rattle.snl_copies.specs.Code.{in_state}
use Rattle.snl_copies.proofs.parts.push_state_set.Given as goal

abbrev pub invariant-loop-state : goal.invariant-loop-state
invariant-loop-state l =
    l.code.items ++ flat_map in_state (map state_view (drop l.state-index l.set.states.items))
    ≡ l.initial.code.items ++ flat_map in_state (map state_view l.set.states.items)
