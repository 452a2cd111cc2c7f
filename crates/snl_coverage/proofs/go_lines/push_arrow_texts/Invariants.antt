use Rattle.std.proofs.Common.{◌≡◌, ◌++◌, drop}
use Rattle.snl_outline.specs.Shapes.{targets_in}
use Rattle.snl_coverage.specs.Shapes.{arrow_texts, bytes_of}
use Rattle.snl_coverage.proofs.go_lines.push_arrow_texts.Given as goal

-- the texts so far, and those that are left
abbrev pub invariant-loop-arrow : goal.invariant-loop-arrow
invariant-loop-arrow l =
    bytes_of l.texts.items ++ arrow_texts l.set l.from (targets_in (drop l.arrow-index l.arrows))
    ≡ bytes_of l.initial.texts.items ++ arrow_texts l.set l.from (targets_in l.arrows)
