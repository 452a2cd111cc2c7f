use Rattle.std.proofs.Common.{map, refl}
use Rattle.snl_coverage.specs.Pictures.{pictured_set}
use Rattle.snl_outline.specs.Shapes.{outlined_set}
use Rattle.snl_coverage.proofs.Texts.{next-shown}
use Rattle.snl_coverage.proofs.chart_picture.clusters_of.Goals as goal

pub loop-set-preserved : goal.loop-set-preserved
loop-set-preserved c =
    next-shown pictured_set outlined_set (map outlined_set) (λ x xs. refl)
    c.args.charts.now c.loop-set.set c.index-charts-set.result c.loop-set.clusters.items c.pushed.new.row.items c.in_ok-cluster.cluster _
    c.loop-set-test.true c.index-charts-set.is c.loop-set.invariant c.in_ok-pushed.ensures c.in_ok-cluster.ensures
