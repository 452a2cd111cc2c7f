-- Laws of where two lists of lines differ first.
use Rattle.std.proofs.Common.{◌≡◌, ◌∙◌, ℕ, Bool, true, false, cond, List, [], ◌∷◌, None, Some, bytes_eq, refl, ap, subst}
use Rattle.std.proofs.lemmas.Slice.Eq.{bytes_eq-Decides}
use Rattle.snl_same.specs.Firsts.{NoneIsSame, first_difference}

-- lists with no difference are the same
pub same-by-none : (lines others : List (List ℕ)) → first_difference lines others ≡ None → lines ≡ others
unfolding first_difference
same-by-none [] [] none = refl
same-by-none (a ∷ xs) [] none = absurd cc
same-by-none [] (b ∷ ys) none = absurd cc
same-by-none (a ∷ xs) (b ∷ ys) none = by (λ same. same-by-none xs ys same) (bytes_eq a b) refl none
  where
    by : (first_difference xs ys ≡ None → xs ≡ ys) → (t : Bool) → bytes_eq a b ≡ t → cond t (first_difference xs ys) (Some (Some a, Some b)) ≡ None → (a ∷ xs) ≡ (b ∷ ys)
    by rest true is same = ap (λ z. z ∷ xs) ((bytes_eq-Decides a b).0 is) ∙ ap (λ z. b ∷ z) (rest same)
    by rest false is other = absurd cc

-- a list and itself have none
pub none-of-same : (lines : List (List ℕ)) → first_difference lines lines ≡ None
unfolding first_difference
none-of-same [] = refl
none-of-same (a ∷ xs) = rw ((bytes_eq-Decides a a).1 refl) (none-of-same xs)

-- the law, of any two lists
pub none-is-same : NoneIsSame
none-is-same lines others = (same-by-none lines others, λ is. subst (λ (z : List (List ℕ)). first_difference lines z ≡ None) is (none-of-same lines))

-- nothing and nothing
pub first-none : first_difference [] [] ≡ None
unfolding first_difference
first-none = refl

-- a line where the other list has no more
pub first-no-other : (line : List ℕ) (lines : List (List ℕ)) → first_difference (line ∷ lines) [] ≡ Some (Some line, None)
unfolding first_difference
first-no-other line lines = refl

-- a line where the first list has no more
pub first-no-line : (other : List ℕ) (others : List (List ℕ)) → first_difference [] (other ∷ others) ≡ Some (None, Some other)
unfolding first_difference
first-no-line other others = refl

-- two lines that are not the same
pub first-here : (line other : List ℕ) (lines others : List (List ℕ)) → bytes_eq line other ≡ false → first_difference (line ∷ lines) (other ∷ others) ≡ Some (Some line, Some other)
unfolding first_difference
first-here line other lines others differ = ap (λ t. cond t (first_difference lines others) (Some (Some line, Some other))) differ

-- two lines that are
pub first-on : (line other : List ℕ) (lines others : List (List ℕ)) → bytes_eq line other ≡ true → first_difference (line ∷ lines) (other ∷ others) ≡ first_difference lines others
unfolding first_difference
first-on line other lines others same = ap (λ t. cond t (first_difference lines others) (Some (Some line, Some other))) same
