use Rattle.std.proofs.Common.{◌≡◌, map, drop}
use Rattle.std.specs.Prelude.{max}
use Rattle.snl_syntax.specs.view.Lists.{statement_list}
use Rattle.snl_syntax.specs.view.Statements.{statement_view}
use Rattle.snl_emit.specs.Depths.{statements_depth}
use Rattle.snl_meaning.specs.Known.{outlines}
use Rattle.snl_flat.specs.Depths.{capped}
use Rattle.snl_flat.proofs.block_depths.+depths.Given as goal

abbrev pub invariant-statements_depth-loop-statement : goal.invariant-statements_depth-loop-statement
invariant-statements_depth-loop-statement l =
    max l.depth (capped (statements_depth (outlines l.functions) (statement_list (map statement_view (drop l.statement-index l.statements)))))
    ≡ capped (statements_depth (outlines l.functions) (statement_list (map statement_view l.statements)))
