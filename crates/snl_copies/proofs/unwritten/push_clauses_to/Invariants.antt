use Rattle.std.proofs.Common.{◌≡◌, ◌++◌, map, drop}
use Rattle.std.specs.List.{flat_map}
use Rattle.snl_syntax.specs.view.Definitions.{definition_view}
use Rattle.snl_syntax.specs.view.Programs.{clause_view}
use Rattle.snl_copies.specs.Tests.{in_clause_to}
use Rattle.snl_copies.proofs.unwritten.push_clauses_to.Given as goal

abbrev pub invariant-loop-clause : goal.invariant-loop-clause
invariant-loop-clause l =
    l.found.items ++ flat_map (in_clause_to (map definition_view l.definitions) l.way.state.now l.way.uses.now l.way.copy.now) (map clause_view (drop l.clause-index l.clauses))
    ≡ l.initial.found.items ++ flat_map (in_clause_to (map definition_view l.definitions) l.way.state.now l.way.uses.now l.way.copy.now) (map clause_view l.clauses)
