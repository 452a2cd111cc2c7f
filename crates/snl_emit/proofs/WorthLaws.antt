-- What a chain of operators is worth, and its front that is constant.
use Rattle.std.proofs.Common.{◌≡◌, ◌∙◌, List, map, Vec, Box, Global, refl, sym, ap}
use Rattle.snl_text.specs.declared.kinds.Kind.{Kind}
use Rattle.snl_text.specs.declared.kinds.Kind.TheVariants as kind
use Rattle.snl_syntax.specs.Expressions.{TermList, no_terms, term}
use Rattle.snl_syntax.specs.declared.expressions.Expr.{Expr, Chain}
use Rattle.snl_syntax.specs.declared.expressions.Term.{Term}
use Rattle.snl_syntax.specs.view.Lists.{term_list}
use Rattle.snl_syntax.specs.view.Expressions.{view, pair_of}
use Rattle.snl_syntax.proofs.Rows.{view_chain}
use Rattle.snl_names.specs.declared.constants.Constant.{Constant}
use Rattle.snl_names.specs.declared.constants.Constant.TheVariants.{Varies}
use Rattle.snl_names.specs.Constants.{joined}
use Rattle.snl_names.specs.declared.sites.Site.{Site}
use Rattle.snl_emit.specs.Worth.{worth_of, worth_chain}

-- a chain is worth what its operators make of its first operand
pub chain-worth : (sites : List Site) (e d : Expr) (first : Box Expr Global) (terms : Vec Term Global) (items : List Term) (left all : Constant) → e ≡ Chain first terms
    → d ≡ first.value → items ≡ terms.items → left ≡ worth_of sites (view d) → all ≡ worth_chain sites (term_list (map pair_of items)) left → all ≡ worth_of sites (view e)
chain-worth sites e d first terms items left all ee ed ei el ea =
    ea ∙ ap (λ c. worth_chain sites (term_list (map pair_of items)) c) (el ∙ ap (λ x. worth_of sites (view x)) ed)
    ∙ ap (λ l. worth_chain sites (term_list (map pair_of l)) (worth_of sites (view first.value))) ei
    ∙ sym (ap (worth_of sites) (ap view ee ∙ view_chain first terms))

-- an operator after what varies makes what varies
joined-varies : (op : Kind) (b : Constant) → joined op Varies b ≡ Varies
joined-varies kind.AmpersandAmpersand b = refl
joined-varies kind.BarBar b = refl
joined-varies op b = refl

-- so do all that follow
pub chain-varies : (sites : List Site) (rest : TermList) → worth_chain sites rest Varies ≡ Varies
chain-varies sites no_terms = refl
chain-varies sites (term op e rest) = ap (worth_chain sites rest) (joined-varies op.kind (worth_of sites e)) ∙ chain-varies sites rest
