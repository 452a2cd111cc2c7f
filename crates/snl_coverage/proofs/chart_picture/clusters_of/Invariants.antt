use Rattle.std.proofs.Common.{◌≡◌, ◌++◌, drop, map}
use Rattle.snl_coverage.specs.Pictures.{pictured_set}
use Rattle.snl_outline.specs.Shapes.{outlined_set}
use Rattle.snl_coverage.proofs.chart_picture.clusters_of.Given as goal

-- the clusters so far, and those that are left
abbrev pub invariant-loop-set : goal.invariant-loop-set
invariant-loop-set l =
    map pictured_set l.clusters.items ++ map outlined_set (drop l.set l.charts) ≡ map outlined_set l.charts
