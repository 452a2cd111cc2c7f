use Rattle.std.proofs.Common.{◌≡◌, ◌++◌, drop}
use Rattle.std.specs.List.{flat_map}
use Rattle.snl_coverage.specs.Pictures.{arrow_lines}
use Rattle.snl_coverage.proofs.graphviz.push_arrows.Given as goal

-- the text so far, and the arrows that are left
abbrev pub invariant-loop-arrow : goal.invariant-loop-arrow
invariant-loop-arrow l =
    l.out.items ++ flat_map (arrow_lines l.set l.from) (drop l.arrow-index l.arrows) ≡ l.initial.out.items ++ flat_map (arrow_lines l.set l.from) l.arrows
