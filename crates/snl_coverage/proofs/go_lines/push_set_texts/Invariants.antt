use Rattle.std.proofs.Common.{◌≡◌, ◌++◌, drop, map}
use Rattle.std.specs.List.{flat_map}
use Rattle.snl_outline.specs.Shapes.{outlined_state}
use Rattle.snl_coverage.specs.Shapes.{bytes_of, state_texts}
use Rattle.snl_coverage.proofs.go_lines.push_set_texts.Given as goal

-- the texts so far, and those of the states that are left
abbrev pub invariant-loop-state : goal.invariant-loop-state
invariant-loop-state l =
    bytes_of l.texts.items ++ flat_map (state_texts l.set.name.items) (map outlined_state (drop l.state-index l.set.states.items))
    ≡ bytes_of l.initial.texts.items ++ flat_map (state_texts l.set.name.items) (map outlined_state l.set.states.items)
