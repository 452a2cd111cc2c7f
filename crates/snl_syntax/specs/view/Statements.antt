-- The plain tree of a declared statement.
use Rattle.std.specs.Prelude.{List, map, Vec}
use Rattle.std.proofs.Common.{Global}
use Rattle.snl_syntax.specs.declared.declarations.Declaration.{Declaration}
use Rattle.snl_syntax.specs.declared.statements.Header.{Header}
use Rattle.snl_syntax.specs.declared.statements.Block.{Block}
use Rattle.snl_syntax.specs.declared.statements.Stmt.{Stmt, Block', Empty, Expression, Break, Continue, State, Return, If', IfElse', While', For', Row_of-Stmt, end_of-Stmt, more_of-Stmt}
use Rattle.snl_syntax.specs.view.Shown.{shown}
use Rattle.snl_syntax.specs.view.Expressions.{boxed}
use Rattle.snl_syntax.specs.Declarations.{DeclarationTree}
use Rattle.snl_syntax.specs.view.Declarations.{declaration_view}
use Rattle.snl_syntax.specs.Statements as trees
use Rattle.snl_syntax.specs.Statements.{StatementTree, StatementList, BlockTree, nested, empty, expression, break_loop, continue_loop, change_state, return_with, if_then, if_else, while_loop, for_loop, no_statements, statement, block}
use Rattle.snl_syntax.specs.view.Lists.{statement_list}

abbrev pub header_view : Header → trees.Header
header_view h = record { start = shown boxed h.start; condition = shown boxed h.condition; step = shown boxed h.step }

abbrev pub declaration_views : Vec Declaration Global → List DeclarationTree
declaration_views v = map declaration_view v.items

abbrev mutual
  pub statement_view : Stmt → StatementTree
  statement_view (Block' declared shape all) = nested (block (declaration_views declared) (row_view all))
  statement_view Empty = empty
  statement_view (Expression e) = expression (boxed e)
  statement_view (Break t) = break_loop t
  statement_view (Continue t) = continue_loop t
  statement_view (State t x) = change_state t x
  statement_view (Return t e) = return_with t (shown boxed e)
  statement_view (If' c p s) = if_then (boxed c) (statement_view s)
  statement_view (IfElse' c p s q e) = if_else (boxed c) (statement_view s) (statement_view e)
  statement_view (While' t c p s) = while_loop t (boxed c) (statement_view s)
  statement_view (For' t h p s) = for_loop t (header_view h.value) (statement_view s)

  pub row_view : {m : _} → Row_of-Stmt m → StatementList
  row_view end_of-Stmt = no_statements
  row_view (more_of-Stmt s rest) = statement (statement_view s) (row_view rest)

abbrev pub statement_views : Vec Stmt Global → List StatementTree
statement_views v = map statement_view v.items

abbrev pub block_view : Block → BlockTree
block_view b = block (declaration_views b.declarations) (statement_list (statement_views b.statements))
