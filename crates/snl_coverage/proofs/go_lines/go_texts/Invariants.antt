use Rattle.std.proofs.Common.{◌≡◌, ◌++◌, drop, map}
use Rattle.std.specs.List.{flat_map}
use Rattle.snl_outline.specs.Shapes.{outlined_set}
use Rattle.snl_coverage.specs.Shapes.{bytes_of, set_texts}
use Rattle.snl_coverage.proofs.go_lines.go_texts.Given as goal

-- the texts so far, and those of the state sets that are left
abbrev pub invariant-loop-set : goal.invariant-loop-set
invariant-loop-set l =
    bytes_of l.texts.items ++ flat_map set_texts (map outlined_set (drop l.set-index l.chart.outline.sets.items)) ≡ flat_map set_texts (map outlined_set l.chart.outline.sets.items)
