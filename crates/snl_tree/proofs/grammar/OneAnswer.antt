-- Tokens have one answer at most: a tree, a first token that is unexpected, or a first that is too deep.
use Rattle.std.proofs.Common.{◌≡◌, ℕ, zero, suc, ◌≤◌, ◌<◌, List, [], ◌∷◌, ◌++◌, inl, inr, length, take, drop, refl, sym, ap, ◌∙◌, subst, arith, append_assoc, append-nil}
use Rattle.std.proofs.lemmas.Bool.{cases_order}
use Rattle.snl_text.specs.declared.tokens.Token.{Token}
use Rattle.snl_syntax.specs.Slots.{Spelled}
use Rattle.snl_syntax.specs.Begins.{Sort, Spells, Begins, IsUnexpected, IsTooDeep}
use Rattle.snl_tree.proofs.grammar.Theorem.{spelled_cut, take_drop}

-- a prefix of a prefix is a prefix of the whole
take_take : (i j : ℕ) (ts : List Token) → i ≤ j → take i (take j ts) ≡ take i ts
take_take zero j ts h = refl
take_take (suc i) zero ts h = absurd (omega arith)
take_take (suc i) (suc j) [] h = refl
take_take (suc i) (suc j) (t ∷ ts) h = ap (λ z. t ∷ z) (take_take i j ts (omega arith))

-- a prefix of the tokens has the length that was asked for
take_length : (j : ℕ) (ts : List Token) → j ≤ length ts → length (take j ts) ≡ j
take_length zero ts h = refl
take_length (suc j) [] h = absurd (omega arith)
take_length (suc j) (t ∷ ts) h = ap suc (take_length j ts (omega arith))

-- the prefix as long as the tokens is all of them
take_all : (ts : List Token) → take (length ts) ts ≡ ts
take_all [] = refl
take_all (t ∷ ts) = ap (λ z. t ∷ z) (take_all ts)

module _ {A : Type 0} (S : Sort A) where
  -- a shorter prefix of the tokens begins the same tree
  fewer : (n : ℕ) (ts : List Token) (i j : ℕ) → i ≤ j → j ≤ length ts → Begins S n (take j ts) → Begins S n (take i ts)
  fewer n ts i j h b x = record {
    whole = x.whole;
    is = x.is;
    front = take i x.front;
    back = drop i x.front ++ x.back;
    halves = x.halves ∙ ap (λ z. z ++ x.back) (take_drop i x.front) ∙ append_assoc (take i x.front) (drop i x.front) x.back;
    fits = subst (λ z. Spelled (take i x.front) z []) (take_take i j ts h) (spelled_cut x.front i (take j ts) [] (let l = take_length j ts b in omega arith) x.fits);
  }

  -- tokens begin the tree that they spell
  all_begin : (n : ℕ) (ts : List Token) (a : A) → S.within n a → Spells S a ts → Begins S n (take (length ts) ts)
  all_begin n ts a g s = record {
    whole = a;
    is = g;
    front = S.slots a;
    back = [];
    halves = sym (append-nil _);
    fits = subst (λ z. Spelled (S.slots a) z []) (sym (take_all ts)) s;
  }

  -- what spells a tree has no first token that is unexpected
  pub spelled_not_unexpected : (limit : ℕ) (ts : List Token) (k : ℕ) (a : A) → S.within limit a → Spells S a ts → IsUnexpected S limit ts k → ⊥
  spelled_not_unexpected limit ts k a g s u = elim (cases_order k (length ts)) [
    | inl e ↦ u.whole limit e a g s
    | inr (inl less) ↦ u.at limit less (fewer limit ts (suc k) (length ts) less (omega arith) (all_begin limit ts a g s))
    | inr (inr more) ↦ let w = u.within in absurd (omega arith)
  ]

  -- what spells a tree has no first token that is too deep
  pub spelled_not_too_deep : (limit : ℕ) (ts : List Token) (k : ℕ) (a : A) → S.within limit a → Spells S a ts → IsTooDeep S limit ts k → ⊥
  spelled_not_too_deep limit ts k a g s d = d.at (fewer limit ts (suc k) (length ts) d.within (omega arith) (all_begin limit ts a g s))

  -- no prefix of the tokens with an unexpected one in it begins a tree
  not_before : (limit : ℕ) (ts : List Token) (k j : ℕ) → k < j → j ≤ length ts → IsUnexpected S limit ts k → Begins S limit (take j ts) → ⊥
  not_before limit ts k j h w u b = u.at limit (omega arith) (fewer limit ts (suc k) j h w b)

  -- there is one first token that is unexpected
  pub one_unexpected : (limit : ℕ) (ts : List Token) (k j : ℕ) → IsUnexpected S limit ts k → IsUnexpected S limit ts j → k ≡ j
  one_unexpected limit ts k j u v = elim (cases_order k j) [
    | inl e ↦ e
    | inr (inl less) ↦ absurd (not_before limit ts k j less v.within u v.before)
    | inr (inr more) ↦ absurd (not_before limit ts j k more u.within v u.before)
  ]

  -- there is one first token that is too deep
  pub one_too_deep : (limit : ℕ) (ts : List Token) (k j : ℕ) → IsTooDeep S limit ts k → IsTooDeep S limit ts j → k ≡ j
  one_too_deep limit ts k j d e = elim (cases_order k j) [
    | inl same ↦ same
    | inr (inl less) ↦ let w = e.within in absurd (d.at (fewer limit ts (suc k) j less (omega arith) e.before))
    | inr (inr more) ↦ let w = d.within in absurd (e.at (fewer limit ts (suc j) k more (omega arith) d.before))
  ]

  -- no tokens have both a first one that is unexpected and a first one that is too deep
  pub unexpected_not_too_deep : (limit : ℕ) (ts : List Token) (k j : ℕ) → IsUnexpected S limit ts k → IsTooDeep S limit ts j → ⊥
  unexpected_not_too_deep limit ts k j u d = elim (cases_order k j) [
    | inl same ↦ u.at d.beyond.0 (let w = d.within in omega arith) (subst (λ z. Begins S d.beyond.0 (take (suc z) ts)) (sym same) d.beyond.1)
    | inr (inl less) ↦ let w = d.within in not_before limit ts k j less (omega arith) u d.before
    | inr (inr more) ↦ d.at (fewer limit ts (suc j) k more u.within u.before)
  ]
