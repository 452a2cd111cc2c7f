-- Lists that are walked: what holds of all members from one on holds of all, once it holds of those before.
use Rattle.std.proofs.Common.{◌≡◌, ◌+◌, ◌<◌, ◌≤◌, sym, subst, ℕ, List, [], ◌∷◌, Some, length, get_or, drop}
use Rattle.std.specs.Prelude.{slice_get}
use Rattle.std.proofs.lemmas.List.{drop_all, drop_more}
use Rattle.std.proofs.lemmas.Option.{get_or_from_slice_get}

module _ {A : Type 0} (P : List A → Type 0) (xs : List A) (i : ℕ) where
  -- one member more
  pub one-more : (Q : A → Type 0) → ((x : A) (rest : List A) → Q x → P rest → P (x ∷ rest)) → (x : A) → i < length xs → x ≡ get_or xs i x → (P (drop i xs) → P xs) → Q x →
      P (drop (i + 1) xs) → P xs
  one-more Q make x low is before here more =
      before (subst P (sym (drop_more xs i x low)) (subst (λ (y : A). P (y ∷ drop (i + 1) xs)) is (make x (drop (i + 1) xs) here more)))

  -- all of them
  pub all-of : P [] → length xs ≤ i → (P (drop i xs) → P xs) → P xs
  all-of none beyond before = before (subst P (sym (drop_all i xs beyond)) none)

-- the same where the place of the first of them is of matter
module _ {A : Type 0} (P : ℕ → List A → Type 0) (xs : List A) (i : ℕ) where
  -- one member more
  pub one-from : (x : A) → i < length xs → slice_get xs i ≡ Some x → (P i (drop i xs) → P 0 xs) → ((rest : List A) → P (i + 1) rest → P i (x ∷ rest)) →
      P (i + 1) (drop (i + 1) xs) → P 0 xs
  one-from x low at before make more =
      before (subst (P i) (sym (drop_more xs i x low)) (subst (λ (y : A). P i (y ∷ drop (i + 1) xs)) (sym (get_or_from_slice_get xs i x x at)) (make (drop (i + 1) xs) more)))

  -- all of them
  pub all-from : P i [] → length xs ≤ i → (P i (drop i xs) → P 0 xs) → P 0 xs
  all-from none beyond before = before (subst (P i) (sym (drop_all i xs beyond)) none)
