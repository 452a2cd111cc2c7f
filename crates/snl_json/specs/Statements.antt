-- The rows of statements.
use Rattle.std.specs.Prelude.{List, [], ◌∷◌, codes}
use Rattle.serde_json.specs.Data.{Data}
use Rattle.snl_json.specs.declared.rows.Part.TheVariants as part
use Rattle.snl_json.specs.Rows.{with_row, last, with_maybe, maybe_last, with_list}
use Rattle.snl_json.specs.Expressions.{with_expression}
use Rattle.snl_json.specs.Declarations.{with_declaration}
use Rattle.snl_syntax.specs.Statements.{Header, StatementTree, StatementList, BlockTree, nested, empty, expression, break_loop, continue_loop, change_state, return_with, if_then, if_else, while_loop, for_loop, no_statements, statement, block}

-- What stands between the parentheses of a `for`.
abbrev pub with_header : Header → List Data → List Data
with_header h rows =
    let start = with_maybe with_expression h.start rows in let condition = with_maybe with_expression h.condition start in
    let step = with_maybe with_expression h.step condition in
    with_row (codes "Header") (maybe_last h.start start ∷ maybe_last h.condition condition ∷ maybe_last h.step step ∷ []) step

abbrev mutual
  -- a statement
  pub with_statement : StatementTree → List Data → List Data
  with_statement (nested b) rows = let inside = with_block b rows in with_row (codes "nested") (last inside ∷ []) inside
  with_statement empty rows = with_row (codes "empty") [] rows
  with_statement (expression e) rows = let given = with_expression e rows in with_row (codes "expression") (last given ∷ []) given
  with_statement (break_loop t) rows = with_row (codes "break_loop") (part.Word t ∷ []) rows
  with_statement (continue_loop t) rows = with_row (codes "continue_loop") (part.Word t ∷ []) rows
  with_statement (change_state t x) rows = with_row (codes "change_state") (part.Word t ∷ part.Word x ∷ []) rows
  with_statement (return_with t e) rows =
      let given = with_maybe with_expression e rows in with_row (codes "return_with") (part.Word t ∷ maybe_last e given ∷ []) given
  with_statement (if_then c s) rows =
      let condition = with_expression c rows in let first = with_statement s condition in
      with_row (codes "if_then") (last condition ∷ last first ∷ []) first
  with_statement (if_else c s e) rows =
      let condition = with_expression c rows in let first = with_statement s condition in let second = with_statement e first in
      with_row (codes "if_else") (last condition ∷ last first ∷ last second ∷ []) second
  with_statement (while_loop t c s) rows =
      let condition = with_expression c rows in let body = with_statement s condition in
      with_row (codes "while_loop") (part.Word t ∷ last condition ∷ last body ∷ []) body
  with_statement (for_loop t parts s) rows =
      let header = with_header parts rows in let body = with_statement s header in
      with_row (codes "for_loop") (part.Word t ∷ last header ∷ last body ∷ []) body

  -- statements in front of the row of the empty list, the last one first
  pub with_statements : StatementList → List Data → List Data
  with_statements no_statements rows = rows
  with_statements (statement s rest) rows =
      let others = with_statements rest rows in let here = with_statement s others in
      with_row (codes "statement") (last here ∷ last others ∷ []) here

  -- a block
  pub with_block : BlockTree → List Data → List Data
  with_block (block ds all) rows =
      let declared = with_list with_declaration ds rows in let inside = with_statements all (with_row (codes "no_statements") [] declared) in
      with_row (codes "block") (last declared ∷ last inside ∷ []) inside
