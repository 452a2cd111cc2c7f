use Rattle.std.proofs.Common.{◌≡◌, ◌++◌, drop, map, take}
use Rattle.snl_syntax.specs.view.Programs.{state_view}
use Rattle.snl_outline.specs.Reached.{marks_of}
use Rattle.snl_outline.specs.Told.{state_said, state_told}
use Rattle.snl_outline.proofs.shapes.state_outlines.Given as goal

-- the states so far, and those that are left; and the marks of those so far
abbrev pub invariant-loop-number : goal.invariant-loop-number
invariant-loop-number l =
    (map state_said l.outlines.items ++ map state_told (map state_view (drop l.number l.states)) ≡ map state_told (map state_view l.states))
    × (marks_of l.outlines.items ≡ take l.number l.reached.items)
