-- Rows that have one member for each state set.
use Rattle.std.proofs.Common.{◌≡◌, ◌∙◌, ◌+◌, ◌<◌, ℕ, zero, suc, List, [], ◌∷◌, ◌++◌, Some, refl, ap, sym, arith, append_assoc, drop, length, map, slice_get}
use Rattle.std.proofs.lemmas.List.{map-append}
use Rattle.snl_syntax.specs.Programs.{StateSetTree}
use Rattle.snl_flat.specs.Heres.{for_each_set}

module _ {A : Type 0} (f : ℕ → A) where
  -- a row has as many members as there are state sets
  pub row-length : (k : ℕ) (gs : List StateSetTree) → length (for_each_set f k gs) ≡ length gs
  row-length k [] = refl
  row-length k (g ∷ gs) = ap suc (row-length (k + 1) gs)

  -- the member of a number is that of the state set of the number
  pub row-at : (k : ℕ) (gs : List StateSetTree) (i : ℕ) → i < length gs → slice_get (for_each_set f k gs) i ≡ Some (f (k + i))
  row-at k [] i within = absurd (omega (arith, within))
  row-at k (g ∷ gs) zero within = ap (λ (n : ℕ). Some (f n)) (omega arith)
  row-at k (g ∷ gs) (suc i) within = row-at (k + 1) gs i (omega (arith, within)) ∙ ap (λ (n : ℕ). Some (f n)) (omega arith)

module _ {A B : Type 0} (view : B → A) (f : ℕ → A) where
  -- what is left begins with the member of this state set
  row-drop : (k : ℕ) (gs : List StateSetTree) (i : ℕ) → i < length gs → for_each_set f k (drop i gs) ≡ f k ∷ for_each_set f (k + 1) (drop (suc i) gs)
  row-drop k [] i within = absurd (omega (arith, within))
  row-drop k (g ∷ gs) zero within = refl
  row-drop k (g ∷ gs) (suc i) within = row-drop k gs i (omega (arith, within))

  -- one member more is there
  pub row-more : (gs : List StateSetTree) (i : ℕ) (rows more : List B) (new : B) (all : List A) → i < length gs → more ≡ rows ++ new ∷ [] → view new ≡ f i →
      map view rows ++ for_each_set f i (drop i gs) ≡ all → map view more ++ for_each_set f (i + 1) (drop (i + 1) gs) ≡ all
  row-more gs i rows more new all within is this before =
      let one_more : i + 1 ≡ suc i = omega arith in
      let rest = for_each_set f (i + 1) (drop (i + 1) gs) in
      ap (λ (l : List B). map view l ++ rest) is
      ∙ ap (λ (l : List A). l ++ rest) (map-append view rows (new ∷ []))
      ∙ append_assoc (map view rows) (view new ∷ []) rest
      ∙ ap (λ (c : A). map view rows ++ c ∷ rest) this
      ∙ ap (λ (n : ℕ). map view rows ++ f i ∷ for_each_set f (i + 1) (drop n gs)) one_more
      ∙ sym (ap (λ (l : List A). map view rows ++ l) (row-drop i gs i within))
      ∙ before

-- what is made of each member of a row is a row
pub row-map : {A B : Type 0} (g : A → B) (f : ℕ → A) (k : ℕ) (gs : List StateSetTree) → map g (for_each_set f k gs) ≡ for_each_set (λ n. g (f n)) k gs
row-map g f k [] = refl
row-map g f k (x ∷ xs) = ap (λ l. g (f k) ∷ l) (row-map g f (k + 1) xs)
