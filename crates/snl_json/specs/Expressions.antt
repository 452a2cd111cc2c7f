-- The rows of expressions.
use Rattle.std.specs.Prelude.{List, [], ◌∷◌, codes, ◌⊎◌}
use Rattle.std.proofs.Common.{inl, inr}
use Rattle.serde_json.specs.Data.{Data}
use Rattle.snl_text.specs.declared.tokens.Token.{Token}
use Rattle.snl_json.specs.declared.rows.Part.{Part}
use Rattle.snl_json.specs.declared.rows.Part.TheVariants as part
use Rattle.snl_json.specs.Rows.{with_row, last}
use Rattle.snl_syntax.specs.Expressions.{ExprTree, TermList, ArgumentList, constant, parenthesized, named, element, call, postfix, prefix, chain, conditional, assignment, no_terms, term, no_arguments, value, text}

-- An operator whose operand is the last row, in front of others.
abbrev pub term_row : Token → Part → List Data → List Data
term_row op others rows = with_row (codes "term") (part.Word op ∷ last rows ∷ others ∷ []) rows

abbrev mutual
  -- an expression
  pub with_expression : ExprTree → List Data → List Data
  with_expression (constant t) rows = with_row (codes "constant") (part.Word t ∷ []) rows
  with_expression (parenthesized e) rows = let inside = with_expression e rows in with_row (codes "parenthesized") (last inside ∷ []) inside
  with_expression (named t) rows = with_row (codes "named") (part.Word t ∷ []) rows
  with_expression (element x b e) rows = let index = with_expression e rows in with_row (codes "element") (part.Word x ∷ part.Word b ∷ last index ∷ []) index
  with_expression (call f all) rows = let inside = with_arguments all (with_row (codes "no_arguments") [] rows) in with_row (codes "call") (part.Word f ∷ last inside ∷ []) inside
  with_expression (postfix e op) rows = let operand = with_expression e rows in with_row (codes "postfix") (last operand ∷ part.Word op ∷ []) operand
  with_expression (prefix op e) rows = let operand = with_expression e rows in with_row (codes "prefix") (part.Word op ∷ last operand ∷ []) operand
  with_expression (chain e rest) rows =
      let first = with_expression e rows in let terms = with_terms rest (with_row (codes "no_terms") [] first) in with_row (codes "chain") (last first ∷ last terms ∷ []) terms
  with_expression (conditional c a b) rows =
      let condition = with_expression c rows in let yes = with_expression a condition in let no = with_expression b yes in
      with_row (codes "conditional") (last condition ∷ last yes ∷ last no ∷ []) no
  with_expression (assignment e op f) rows =
      let target = with_expression e rows in let right = with_expression f target in
      with_row (codes "assignment") (last target ∷ part.Word op ∷ last right ∷ []) right

  -- operators with their operands in front of the row of the empty list, the last one first
  pub with_terms : TermList → List Data → List Data
  with_terms no_terms rows = rows
  with_terms (term op e rest) rows =
      let others = with_terms rest rows in let operand = with_expression e others in
      term_row op (last others) operand

  -- the arguments of a call likewise
  pub with_arguments : ArgumentList → List Data → List Data
  with_arguments no_arguments rows = rows
  with_arguments (value e rest) rows =
      let others = with_arguments rest rows in let given = with_expression e others in
      with_row (codes "value") (last given ∷ last others ∷ []) given
  with_arguments (text t rest) rows = let others = with_arguments rest rows in with_row (codes "text") (part.Word t ∷ last others ∷ []) others

-- An argument of a call in front of those that follow it: a string or an expression.
abbrev pub with_argument : Token ⊎ ExprTree → List Data → List Data
with_argument (inl t) others = with_row (codes "text") (part.Word t ∷ last others ∷ []) others
with_argument (inr e) others = let given = with_expression e others in with_row (codes "value") (last given ∷ last others ∷ []) given
