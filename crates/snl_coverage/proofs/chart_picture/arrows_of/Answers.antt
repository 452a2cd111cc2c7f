use Rattle.std.proofs.Common.{refl}
use Rattle.snl_outline.specs.Shapes.{targets_in}
use Rattle.snl_coverage.proofs.Texts.{next-shown}
use Rattle.snl_coverage.proofs.chart_picture.arrows_of.Goals as goal

pub loop-clause-preserved : goal.loop-clause-preserved
loop-clause-preserved c =
    next-shown (λ a. a.target.items) (λ x. x.target.items) targets_in (λ x xs. refl)
    c.args.charts.now c.loop-clause.clause c.index-charts-clause.result c.loop-clause.arrows.items c.pushed.new.row.items c.in_ok-arrow.arrow _
    c.loop-clause-test.true c.index-charts-clause.is c.loop-clause.invariant c.in_ok-pushed.ensures c.in_ok-arrow.ensures
