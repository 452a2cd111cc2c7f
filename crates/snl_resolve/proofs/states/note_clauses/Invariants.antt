use Rattle.std.proofs.Common.{◌≡◌, ◌++◌, map, drop, false}
use Rattle.snl_syntax.specs.view.Programs.{clause_view}
use Rattle.snl_resolve.specs.Seen.{sight_of}
use Rattle.snl_names.specs.Programs.{in_clauses}
use Rattle.snl_resolve.proofs.states.note_clauses.Given as goal

abbrev pub invariant-loop-clause : goal.invariant-loop-clause
invariant-loop-clause l =
    l.sites.items ++ in_clauses (sight_of l.sight) l.states l.is_blocked (map clause_view (drop l.clause-index l.clauses))
    ≡ l.initial.sites.items ++ in_clauses (sight_of l.sight) l.states false (map clause_view l.clauses)
