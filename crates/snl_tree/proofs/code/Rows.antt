-- A chain, which may be one operand alone, and an assignment: how they are made of their parts.
use Rattle.std.proofs.Common.{◌≡◌, ℕ, ◌-◌, nat_eq, true, false, ◌&&◌, Ok, length, vec_len, List, [], ◌∷◌, map, Vec, Global, refl, sym, ap, ◌∙◌, eqb-true, false-eqb, arith}
use Rattle.snl_text.specs.declared.tokens.Token.{Token}
use Rattle.snl_syntax.specs.declared.expressions.Term.{Term}
use Rattle.snl_syntax.specs.Expressions.{ExprTree, assignment, chain}
use Rattle.snl_syntax.specs.view.Expressions.{pair_of, pairs}
use Rattle.snl_syntax.specs.view.Lists.{term_list}
use Rattle.snl_tree.specs.reading.Readers.{starts, one, ◌>>=◌}
use Rattle.snl_tree.specs.reading.Expressions.{chain_tree, inside, opened, is_unary, is_operator, conditional_at, assignment_at, assigned_rest}
use Rattle.snl_tree.proofs.code.Forms.{assignment_form}

-- an operand with no term after it is no chain
pub chain_alone : (e : ExprTree) (v : Vec Term Global) → nat_eq (vec_len v) 0 ≡ true → chain_tree e (pairs v) ≡ e
chain_alone e v z = none v.items (let k = eqb-true (vec_len v) 0 z in omega (arith, v.ok.0))
  where
    none : (l : List Term) → length l ≡ 0 → chain_tree e (map pair_of l) ≡ e
    none [] z = refl
    none (x ∷ l) z = absurd (omega arith)

-- an operand with at least one term after it is a chain
pub chain_more : (e : ExprTree) (v : Vec Term Global) → nat_eq (vec_len v) 0 ≡ false → chain_tree e (pairs v) ≡ chain e (term_list (pairs v))
chain_more e v z = some v.items (λ k. false-eqb (vec_len v) 0 (sym z) (omega (arith, v.ok.0)))
  where
    some : (l : List Term) → (length l ≡ 0 → ⊥) → chain_tree e (map pair_of l) ≡ chain e (term_list (map pair_of l))
    some [] h = absurd (h refl)
    some (x ∷ l) h = refl

-- a target, an assignment operator and a value are read as an assignment
pub assignment_made : (n : ℕ) (ts mid behind rest : List Token) (target right : ExprTree) (op : Token) → conditional_at (inside n) ts ≡ Ok (target, mid)
    → (is_unary target && starts (is_operator 14) mid) ≡ true → opened n (is_operator 14) (one (is_operator 14)) mid ≡ Ok (op, behind)
    → assignment_at (inside (n - 1)) behind ≡ Ok (right, rest) → assignment_at (inside n) ts ≡ Ok (assignment target op right, rest)
unfolding assigned_rest
assignment_made n ts mid behind rest target right op h u o k =
    assignment_form n ts ∙ ap (λ m. m >>= λ x. assigned_rest n x.0 x.1) h
    ∙ rw (u, assigned_rest) (rw o (rw k refl))
