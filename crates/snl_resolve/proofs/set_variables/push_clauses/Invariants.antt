use Rattle.std.proofs.Common.{◌≡◌, ◌++◌, map, drop}
use Rattle.std.specs.List.{flat_map}
use Rattle.snl_syntax.specs.view.Programs.{clause_view}
use Rattle.snl_names.specs.Variables.{by_clause}
use Rattle.snl_names.specs.Chains.{scopes_of}
use Rattle.snl_names.specs.CopyVariables.{variable_view}
use Rattle.snl_resolve.proofs.set_variables.push_clauses.Given as goal

abbrev pub invariant-loop-clause : goal.invariant-loop-clause
invariant-loop-clause l =
    map variable_view l.kept.items ++ flat_map (by_clause (scopes_of l.scopes)) (map clause_view (drop l.clause-index l.clauses))
    ≡ map variable_view l.initial.kept.items ++ flat_map (by_clause (scopes_of l.scopes)) (map clause_view l.clauses)
