use Rattle.std.proofs.Common.{◌≡◌, ◌++◌, drop, map}
use Rattle.snl_syntax.specs.view.Programs.{clause_view}
use Rattle.snl_meaning.specs.Known.{here_of}
use Rattle.snl_flat.specs.Layout.{row_code, row_starts, clause_code, clause_starts}
use Rattle.snl_flat.proofs.laying.lay_clauses.Given as goal

abbrev pub invariant-loop-number : goal.invariant-loop-number
invariant-loop-number l =
    (l.code.items ++ row_code (clause_code (here_of l.known)) l.number (map clause_view (drop l.number l.clauses))
    ≡ l.initial.code.items ++ row_code (clause_code (here_of l.known)) 0 (map clause_view l.clauses))
    × (l.starts.items ++ row_starts (clause_code (here_of l.known)) (clause_starts (here_of l.known)) l.number l.code.items (map clause_view (drop l.number l.clauses))
    ≡ row_starts (clause_code (here_of l.known)) (clause_starts (here_of l.known)) 0 l.initial.code.items (map clause_view l.clauses))
