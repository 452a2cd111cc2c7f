use Rattle.std.proofs.Common.{map, refl}
use Rattle.std.specs.List.{flat_map}
use Rattle.snl_syntax.specs.view.Programs.{clause_view}
use Rattle.snl_copies.specs.Code.{in_clause}
use Rattle.snl_resolve.proofs.Steps.{row_step}
use Rattle.snl_copies.proofs.Rows.{row_ends}
use Rattle.snl_copies.proofs.parts.push_clauses.Goals as goal

pub loop-clause-init : goal.loop-clause-init
loop-clause-init c = refl

pub loop-clause-preserved : goal.loop-clause-preserved
loop-clause-preserved c =
    row_step (λ x. in_clause (clause_view x)) (λ l. flat_map in_clause (map clause_view l)) (λ x xs. refl)
    c.args.clauses.now c.loop-clause.clause-index c.clause-item.result c.loop-clause.code.items c.push_clause.new.code.items _
    c.loop-clause-test.true c.clause-item.is c.loop-clause.invariant c.in_ok-push_clause.ensures

pub returns : goal.returns
returns c =
    row_ends (λ l. flat_map in_clause (map clause_view l)) refl c.args.clauses.now c.loop-clause.clause-index _ _ c.loop-clause-test.false c.loop-clause.invariant
