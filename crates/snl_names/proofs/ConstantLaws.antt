-- The constant of a chain of operators.
use Rattle.std.proofs.Common.{◌≡◌, ℕ, Bool, List, map, Vec, Box, Global, sym, ap, ◌∙◌}
use Rattle.snl_syntax.specs.declared.expressions.Expr.{Expr, Chain}
use Rattle.snl_syntax.specs.declared.expressions.Term.{Term}
use Rattle.snl_syntax.specs.view.Lists.{term_list}
use Rattle.snl_syntax.specs.view.Expressions.{view, pair_of}
use Rattle.snl_names.specs.declared.constants.Constant.{Constant}
use Rattle.snl_names.specs.Constants.{constant_of, constant_chain}
use Rattle.snl_syntax.proofs.Rows.{view_chain}

-- a chain is worth what its operators make of its first operand
pub chain_worth : (h : List ℕ → Bool) (e d : Expr) (first : Box Expr Global) (terms : Vec Term Global) (items : List Term) (left all : Constant) → e ≡ Chain first terms
    → d ≡ first.value → items ≡ terms.items → left ≡ constant_of h (view d) → all ≡ constant_chain h (term_list (map pair_of items)) left
    → all ≡ constant_of h (view e)
chain_worth h e d first terms items left all ee ed ei el ea =
    ea ∙ ap (λ c. constant_chain h (term_list (map pair_of items)) c) (el ∙ ap (λ x. constant_of h (view x)) ed)
    ∙ ap (λ l. constant_chain h (term_list (map pair_of l)) (constant_of h (view first.value))) ei
    ∙ sym (ap (constant_of h) (ap view ee ∙ view_chain first terms))
