use Rattle.std.proofs.Common.{Some, map, drop}
use Rattle.snl_alike.specs.Delays.{DelaysInClauses, IsShort}
use Rattle.snl_syntax.specs.view.Programs.{clause_view}
use Rattle.snl_timing.proofs.parts.are_short_clauses.Given as goal

-- If the clauses that are left are short, all are.
abbrev pub invariant-loop-clause : goal.invariant-loop-clause
invariant-loop-clause l = DelaysInClauses (IsShort (Some l.longest)) (map clause_view (drop l.clause-index l.clauses)) → DelaysInClauses (IsShort (Some l.longest)) (map clause_view l.clauses)
