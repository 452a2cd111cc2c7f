use Rattle.std.proofs.Common.{◌≡◌, map, drop}
use Rattle.std.specs.Prelude.{max}
use Rattle.snl_syntax.specs.view.Programs.{clause_view}
use Rattle.snl_meaning.specs.Known.{outlines}
use Rattle.snl_flat.specs.Depths.{capped, greatest, clause_depth}
use Rattle.snl_flat.proofs.program_depths.clauses_depth.Given as goal

abbrev pub invariant-loop-clause : goal.invariant-loop-clause
invariant-loop-clause l =
    max l.depth (capped (greatest (clause_depth (outlines l.functions)) (map clause_view (drop l.clause-index l.clauses))))
    ≡ capped (greatest (clause_depth (outlines l.functions)) (map clause_view l.clauses))
