use Rattle.std.proofs.Common.{◌≡◌, ◌++◌, drop, map}
use Rattle.snl_syntax.specs.view.Programs.{clause_view}
use Rattle.snl_outline.specs.Told.{clause_said, clause_told}
use Rattle.snl_outline.proofs.shapes.clause_outlines.Given as goal

-- the clauses so far, and those that are left
abbrev pub invariant-loop-clause : goal.invariant-loop-clause
invariant-loop-clause l =
    map clause_said l.outlines.items ++ map clause_told (map clause_view (drop l.clause-index l.clauses)) ≡ map clause_told (map clause_view l.clauses)
