use Rattle.std.proofs.Common.{◌∷◌, [], Some, map}
use Rattle.snl_alike.specs.Delays.{DelaysInClauses, IsShort}
use Rattle.snl_syntax.specs.view.Programs.{clause_view}
use Rattle.snl_timing.proofs.Steps.{all-of, one-more}
use Rattle.snl_timing.proofs.parts.are_short_clauses.Goals as goal

pub loop-clause-preserved : goal.loop-clause-preserved
loop-clause-preserved c =
    one-more (λ l. DelaysInClauses (IsShort (Some c.args.longest)) (map clause_view l)) c.args.clauses.now c.loop-clause.clause-index
    (λ x. DelaysInClauses (IsShort (Some c.args.longest)) (clause_view x ∷ [])) (λ x rest a b. (a.0, b)) c.clause-item.result c.loop-clause-test.true c.clause-item.is c.loop-clause.invariant
    (c.is_short_clause.ensures c.if-not-is_short_clause.false)

pub returns : goal.returns
returns c = λ yes.
    all-of (λ l. DelaysInClauses (IsShort (Some c.args.longest)) (map clause_view l)) c.args.clauses.now c.loop-clause.clause-index tt c.loop-clause-test.false c.loop-clause.invariant
