use Rattle.std.proofs.Common.{map, refl}
use Rattle.std.specs.List.{flat_map}
use Rattle.snl_syntax.specs.view.Definitions.{definition_view}
use Rattle.snl_syntax.specs.view.Programs.{clause_view}
use Rattle.snl_copies.specs.Tests.{in_clause_to}
use Rattle.snl_resolve.proofs.Steps.{row_step}
use Rattle.snl_copies.proofs.Rows.{row_ends}
use Rattle.snl_copies.proofs.unwritten.push_clauses_to.Goals as goal

pub loop-clause-init : goal.loop-clause-init
loop-clause-init c = refl

pub loop-clause-preserved : goal.loop-clause-preserved
loop-clause-preserved c =
    let one = in_clause_to (map definition_view c.args.definitions.now) c.args.way.now.state.now c.args.way.now.uses.now c.args.way.now.copy.now in
    row_step (λ x. one (clause_view x)) (λ l. flat_map one (map clause_view l)) (λ x xs. refl)
    c.args.clauses.now c.loop-clause.clause-index c.clause-item.result c.loop-clause.found.items c.push_clause_to.new.found.items _
    c.loop-clause-test.true c.clause-item.is c.loop-clause.invariant c.in_ok-push_clause_to.ensures

pub returns : goal.returns
returns c =
    let one = in_clause_to (map definition_view c.args.definitions.now) c.args.way.now.state.now c.args.way.now.uses.now c.args.way.now.copy.now in
    row_ends (λ l. flat_map one (map clause_view l)) refl c.args.clauses.now c.loop-clause.clause-index _ _ c.loop-clause-test.false c.loop-clause.invariant
