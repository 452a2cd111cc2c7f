use Rattle.std.proofs.Common.{◌≡◌, ◌++◌, drop, map, take}
use Rattle.snl_syntax.specs.view.Programs.{state_set_view}
use Rattle.snl_outline.specs.Reached.{AreMarked}
use Rattle.snl_outline.specs.Told.{set_said, set_told}
use Rattle.snl_outline.proofs.shapes.set_outlines.Given as goal

-- the state sets so far, and those that are left; and the marks of those so far
abbrev pub invariant-loop-set : goal.invariant-loop-set
invariant-loop-set l =
    (map set_said l.outlines.items ++ map set_told (map state_set_view (drop l.set-index l.sets)) ≡ map set_told (map state_set_view l.sets))
    × AreMarked (map state_set_view (take l.set-index l.sets)) l.outlines.items
