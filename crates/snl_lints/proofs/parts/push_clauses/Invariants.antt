use Rattle.std.proofs.Common.{◌≡◌, ◌++◌, map, drop}
use Rattle.std.specs.List.{flat_map}
use Rattle.snl_syntax.specs.view.Programs.{clause_view}
use Rattle.snl_names.specs.UseTables.{declared_at}
use Rattle.snl_lints.specs.Touches.{in_clause}
use Rattle.snl_lints.proofs.parts.push_clauses.Given as goal

abbrev pub invariant-loop-clause : goal.invariant-loop-clause
invariant-loop-clause l =
    l.found.items ++ flat_map (in_clause (declared_at l.uses) l.leaving l.own) (map clause_view (drop l.clause-index l.clauses))
    ≡ l.initial.found.items ++ flat_map (in_clause (declared_at l.uses) l.leaving l.own) (map clause_view l.clauses)
