use Rattle.std.proofs.Common.{ap, ◌∙◌}
use Rattle.snl_syntax.specs.Statements.{nested}
use Rattle.snl_syntax.specs.view.Statements.{block_view}
use Rattle.snl_syntax.proofs.StatementRows.{view_block}
use Rattle.snl_tree.proofs.readers.boxes.statements.nested_of.Goals as goal

-- the block in the box is seen as the block that stands as a statement
pub returns : goal.returns
returns c = view_block c.into_inner.result ∙ ap (λ b. nested (block_view b)) c.into_inner.ensures
