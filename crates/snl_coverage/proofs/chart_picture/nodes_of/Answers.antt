use Rattle.std.proofs.Common.{map, refl}
use Rattle.snl_coverage.specs.Pictures.{pictured_state}
use Rattle.snl_outline.specs.Shapes.{outlined_state}
use Rattle.snl_coverage.proofs.Texts.{next-shown}
use Rattle.snl_coverage.proofs.chart_picture.nodes_of.Goals as goal

pub loop-state-preserved : goal.loop-state-preserved
loop-state-preserved c =
    next-shown pictured_state outlined_state (map outlined_state) (λ x xs. refl)
    c.args.charts.now c.loop-state.state c.index-charts-state.result c.loop-state.nodes.items c.pushed.new.row.items c.in_ok-node.node _
    c.loop-state-test.true c.index-charts-state.is c.loop-state.invariant c.in_ok-pushed.ensures c.in_ok-node.ensures
