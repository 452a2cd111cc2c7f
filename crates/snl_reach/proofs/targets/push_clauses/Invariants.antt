use Rattle.std.proofs.Common.{◌≡◌, ◌++◌, map, drop}
use Rattle.std.specs.List.{flat_map}
use Rattle.snl_syntax.specs.view.Programs.{clause_view}
use Rattle.snl_reach.specs.Reach.{targets_in_clause}
use Rattle.snl_reach.proofs.targets.push_clauses.Given as goal

abbrev pub invariant-loop-clause : goal.invariant-loop-clause
invariant-loop-clause l =
    l.names.items ++ flat_map targets_in_clause (map clause_view (drop l.clause-index l.clauses))
    ≡ l.initial.names.items ++ flat_map targets_in_clause (map clause_view l.clauses)
