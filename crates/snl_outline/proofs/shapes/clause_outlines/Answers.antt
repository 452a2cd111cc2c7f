use Rattle.std.proofs.Common.{map, refl}
use Rattle.snl_syntax.specs.view.Programs.{clause_view}
use Rattle.snl_outline.specs.Told.{clause_said, clause_told}
use Rattle.snl_outline.proofs.Rows.{next-shown, no-more}
use Rattle.snl_outline.proofs.shapes.clause_outlines.Goals as goal

pub loop-clause-preserved : goal.loop-clause-preserved
loop-clause-preserved c =
    next-shown clause_said (λ x. clause_told (clause_view x)) (λ l. map clause_told (map clause_view l)) (λ x xs. refl)
    c.args.clauses.now c.loop-clause.clause-index c.clause-item.result c.loop-clause.outlines.items c.pushed.new.row.items c.in_ok-outline.outline _
    c.loop-clause-test.true c.clause-item.is c.loop-clause.invariant c.in_ok-pushed.ensures c.in_ok-outline.ensures

pub returns : goal.returns
returns c =
    no-more (λ n l. map clause_told (map clause_view l)) (λ n. refl) c.args.clauses.now c.loop-clause.clause-index (map clause_said c.loop-clause.outlines.items) _
    c.loop-clause-test.false c.loop-clause.invariant
