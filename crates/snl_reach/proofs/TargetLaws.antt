-- The targets in a statement that is a block.
use Rattle.std.proofs.Common.{◌≡◌, List, ◌++◌, sym, ap, ◌∙◌}
use Rattle.snl_text.specs.declared.tokens.Token.{Token}
use Rattle.snl_syntax.specs.declared.statements.Block.{Block as DeclaredBlock}
use Rattle.snl_syntax.specs.declared.statements.Stmt.{Stmt, Block}
use Rattle.snl_syntax.specs.view.Statements.{statement_view, block_view}
use Rattle.snl_syntax.proofs.StatementRows.{view_block}
use Rattle.snl_reach.specs.Reach.{targets_in_statement, targets_in_block}

-- a block that stands among statements
pub nested_targets : (a : Stmt) (b : DeclaredBlock) (old new : List Token) → a ≡ Block b
    → new ≡ old ++ targets_in_block (block_view b) → new ≡ old ++ targets_in_statement (statement_view a)
nested_targets a b old new ea e = e ∙ ap (λ x. old ++ targets_in_statement x) (sym (ap statement_view ea ∙ view_block b))
