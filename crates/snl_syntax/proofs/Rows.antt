-- The plain tree of a form that holds a vector.
use Rattle.std.proofs.Common.{◌≡◌, map, Vec, Box, Global, refl, ap, ◌∙◌}
use mathlib.Core.Former.{Count}
use Rattle.snl_text.specs.declared.tokens.Token.{Token}
use Rattle.snl_syntax.specs.declared.expressions.Expr.{Expr, Chain', Call', Row_of-Term, end_of-Term, more_of-Term, items-the_row-Term, items_hidden-the_row-Term-1, Row_of-Argument, end_of-Argument, more_of-Argument, items-the_row-Argument, items_hidden-the_row-Argument-0, Chain, Call}
use Rattle.snl_syntax.specs.declared.expressions.Argument.{Argument, Value', Text}
use Rattle.snl_syntax.specs.declared.expressions.Term.{Term}
use Rattle.snl_syntax.specs.Expressions.{chain, call, term, value, text, no_arguments}
use Rattle.snl_syntax.specs.view.Lists.{term_list}
use Rattle.snl_syntax.specs.view.Expressions.{view, view_terms, view_arguments, pair_of, list_before}

-- a row of terms is seen as the list of its terms
view_term_row : (n : _) (row : Row_of-Term n) → view_terms row ≡ term_list (map pair_of (items-the_row-Term n row))
view_term_row n end_of-Term = refl
view_term_row n (more_of-Term op p e rest) = ap (λ z. term op (view e) z) (view_term_row _ rest)

-- a row of arguments is seen as the list of its arguments
view_argument_row : (n : _) (row : Row_of-Argument n) → view_arguments row ≡ list_before (items-the_row-Argument n row) no_arguments
view_argument_row n end_of-Argument = refl
view_argument_row n (more_of-Argument (Value' p e) rest) = ap (λ z. value (view e) z) (view_argument_row _ rest)
view_argument_row n (more_of-Argument (Text t) rest) = ap (λ z. text t z) (view_argument_row _ rest)

-- the row of terms that a chain holds
abbrev term_row : Expr → (n : Count) × Row_of-Term n
term_row (Chain' p e shape row) = (_, row)
term_row _ = (_, end_of-Term)

-- the row of arguments that a call holds
abbrev argument_row : Expr → (n : Count) × Row_of-Argument n
argument_row (Call' t shape row) = (_, row)
argument_row _ = (_, end_of-Argument)

-- a chain is seen as the chain of what it holds
pub view_chain : (b : Box Expr Global) (v : Vec Term Global) → view (Chain b v) ≡ chain (view b.value) (term_list (map pair_of v.items))
view_chain b v =
    let row = term_row (Chain b v) in
    ap (λ z. chain (view b.value) z) (view_term_row row.0 row.1 ∙ ap (λ l. term_list (map pair_of l)) (items_hidden-the_row-Term-1 v))

-- a call is seen as the call with the arguments that it holds
pub view_call : (t : Token) (v : Vec Argument Global) → view (Call t v) ≡ call t (list_before v.items no_arguments)
view_call t v =
    let row = argument_row (Call t v) in
    ap (λ z. call t z) (view_argument_row row.0 row.1 ∙ ap (λ l. list_before l no_arguments) (items_hidden-the_row-Argument-0 v))
