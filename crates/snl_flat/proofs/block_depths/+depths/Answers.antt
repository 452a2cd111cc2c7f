use Rattle.std.proofs.Common.{◌∙◌, ap, sym}
use Rattle.snl_syntax.specs.view.Statements.{statement_view}
use Rattle.snl_syntax.proofs.StatementRows.{view_block}
use Rattle.snl_emit.specs.Depths.{statement_depth}
use Rattle.snl_meaning.specs.Known.{outlines}
use Rattle.snl_flat.specs.Depths.{capped}
use Rattle.snl_flat.proofs.block_depths.+depths.Goals as goal

pub statement_depth-returns-in-Block : goal.statement_depth-returns-in-Block
statement_depth-returns-in-Block t c =
    c.block_depth.ensures ∙ ap (λ x. capped (statement_depth (outlines c.args.functions.now) x)) (sym (ap statement_view c.in-Block.is ∙ view_block c.in-Block.block))
