-- The plain tree of a block that stands in a statement.
use Rattle.std.proofs.Common.{◌≡◌, map, refl, ap, ◌∙◌}
use mathlib.Core.Former.{Count}
use Rattle.snl_syntax.specs.declared.statements.Stmt.{Stmt, Block', Block, Row_of-Stmt, end_of-Stmt, more_of-Stmt, items-the_row-Stmt, items_hidden-the_row-Stmt-0}
use Rattle.snl_syntax.specs.declared.statements.Block as declared
use Rattle.snl_syntax.specs.Statements.{nested, block, statement}
use Rattle.snl_syntax.specs.view.Lists.{statement_list}
use Rattle.snl_syntax.specs.view.Statements.{statement_view, row_view, declaration_views, block_view}

-- a row of statements is seen as the list of its statements
row_statements : (n : _) (row : Row_of-Stmt n) → row_view row ≡ statement_list (map statement_view (items-the_row-Stmt n row))
row_statements n end_of-Stmt = refl
row_statements n (more_of-Stmt s rest) = ap (λ z. statement (statement_view s) z) (row_statements _ rest)

-- the row of statements that a block holds
abbrev statement_row : Stmt → (n : Count) × Row_of-Stmt n
statement_row (Block' declared shape row) = (_, row)
statement_row _ = (_, end_of-Stmt)

-- a block that stands as a statement is seen as the block
pub view_block : (b : declared.Block) → statement_view (Block b) ≡ nested (block_view b)
view_block b =
    let row = statement_row (Block b) in
    ap (λ z. nested (block (declaration_views b.declarations) z)) (row_statements row.0 row.1 ∙ ap (λ l. statement_list (map statement_view l)) (items_hidden-the_row-Stmt-0 b.statements))
