-- What constants are worth in a row, and which operators refuse them.
use Rattle.std.proofs.Common.{◌≡◌, ℕ, ℤ, Bool, true, false, ◌||◌, List, [], ◌∷◌, map, Vec, Box, Global, Option, refl, sym, ap, ◌∙◌}
use Rattle.std.specs.List.{list_any}
use Rattle.snl_text.specs.declared.tokens.Pos.{Pos}
use Rattle.snl_syntax.specs.declared.expressions.Expr.{Expr, Chain}
use Rattle.snl_syntax.specs.declared.expressions.Term.{Term}
use Rattle.snl_syntax.specs.Expressions.{ExprTree}
use Rattle.snl_syntax.specs.view.Declarations.{value_list}
use Rattle.snl_syntax.specs.view.Expressions.{view, pair_of}
use Rattle.snl_syntax.specs.view.Lists.{term_list}
use Rattle.snl_syntax.proofs.Rows.{view_chain}
use Rattle.snl_names.specs.declared.constants.Constant.{Constant}
use Rattle.snl_lints.specs.Constants.{worth_of, worth_chain, lacks, lacks_some}

-- or with false
or_false : (b : Bool) → b ≡ (b || false)
or_false true = refl
or_false false = refl

-- the values of a list in braces, with a comma after the last or not
pub lacks_of_list : (declared : ℕ → Option Pos) (range : Option (ℤ × ℤ)) (es : List ExprTree) (comma : Bool)
    → lacks_some declared range (value_list es comma) ≡ list_any (λ e. lacks range (worth_of declared e)) es
lacks_of_list declared range [] comma = refl
lacks_of_list declared range (e ∷ []) true = refl
lacks_of_list declared range (e ∷ []) false = or_false (lacks range (worth_of declared e))
lacks_of_list declared range (e ∷ f ∷ all) comma = ap (λ b. lacks range (worth_of declared e) || b) (lacks_of_list declared range (f ∷ all) comma)

-- a chain, by its first operand and by what is behind it
pub chain-worth : (declared : ℕ → Option Pos) (e d : Expr) (b : Box Expr Global) (v : Vec Term Global) (items : List Term) (first whole : Constant)
    → e ≡ Chain b v → d ≡ b.value → items ≡ v.items
    → first ≡ worth_of declared (view d) → whole ≡ worth_chain declared (term_list (map pair_of items)) first
    → whole ≡ worth_of declared (view e)
chain-worth declared e d b v items first whole ee ed ei ef ew =
    ew
    ∙ (λ j. worth_chain declared (term_list (map pair_of (ei j))) ((ef ∙ ap (λ x. worth_of declared (view x)) ed) j))
    ∙ ap (worth_of declared) (sym (ap view ee ∙ view_chain b v))
