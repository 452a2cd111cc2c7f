use Rattle.std.proofs.Common.{◌≡◌, ◌++◌, map, drop}
use Rattle.std.specs.List.{flat_map}
use Rattle.snl_syntax.specs.view.Programs.{clause_view}
use Rattle.snl_copies.specs.Code.{in_clause}
use Rattle.snl_copies.proofs.parts.push_clauses.Given as goal

abbrev pub invariant-loop-clause : goal.invariant-loop-clause
invariant-loop-clause l =
    l.code.items ++ flat_map in_clause (map clause_view (drop l.clause-index l.clauses))
    ≡ l.initial.code.items ++ flat_map in_clause (map clause_view l.clauses)
