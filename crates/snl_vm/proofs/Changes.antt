-- One member of a list changes, as its view does; words are copied one by one.
use Rattle.std.proofs.Common.{◌≡◌, ◌∙◌, ◌+◌, ◌-◌, ◌<◌, ℕ, zero, suc, ℤ, pos, List, [], ◌∷◌, ap, sym, arith, map, length, get_or, slice_set, slice_index_or}
use Rattle.snl_meaning.specs.World.{words_at, overwritten}

-- a member whose view was changed
pub view_changed : {A B : Type 0} (view : A → B) (xs : List A) (i : ℕ) (x new : A) (d : B) (change : B → B) → i < length xs → x ≡ get_or xs i x
    → view new ≡ change (view x) → map view (slice_set xs i new) ≡ slice_set (map view xs) i (change (slice_index_or (map view xs) i d))
view_changed view [] i x new d change within is changed = absurd (omega (arith, within))
view_changed view (y ∷ ys) zero x new d change within is changed = ap (λ k. k ∷ map view ys) (changed ∙ ap (λ z. change (view z)) is)
view_changed view (y ∷ ys) (suc i) x new d change within is changed = ap (λ ks. view y ∷ ks) (view_changed view ys i x new d change (omega (arith, within)) is changed)

-- the view of a member
pub view_there : {A B : Type 0} (view : A → B) (xs : List A) (i : ℕ) (x : A) (d : B) → i < length xs → x ≡ get_or xs i x → slice_index_or (map view xs) i d ≡ view x
view_there view [] i x d within is = absurd (omega (arith, within))
view_there view (y ∷ ys) zero x d within is = ap view (sym is)
view_there view (y ∷ ys) (suc i) x d within is = view_there view ys i x d (omega (arith, within)) is

-- one word more was copied
pub overwritten_more : (words : List ℤ) (to from n count : ℕ) (buffers : List ℤ) (z : ℤ) → n < count → slice_index_or buffers (from + n) (pos 0) ≡ z →
    overwritten (slice_set words (to + n) z) (to + (n + 1)) (words_at buffers (from + (n + 1)) (count - (n + 1))) ≡ overwritten words (to + n) (words_at buffers (from + n) (count - n))
overwritten_more words to from n count buffers z less is =
    let later : to + (n + 1) ≡ suc (to + n) = omega arith in
    let later_from : from + (n + 1) ≡ suc (from + n) = omega arith in
    let left : count - n ≡ suc (count - (n + 1)) = omega (arith, less) in
    let rest = words_at buffers (suc (from + n)) (count - (n + 1)) in
    ap (λ t. overwritten (slice_set words (to + n) z) t (words_at buffers (from + (n + 1)) (count - (n + 1)))) later
    ∙ ap (λ f. overwritten (slice_set words (to + n) z) (suc (to + n)) (words_at buffers f (count - (n + 1)))) later_from
    ∙ sym (ap (λ k. overwritten words (to + n) (words_at buffers (from + n) k)) left ∙ ap (λ y. overwritten words (to + n) (y ∷ rest)) is)

-- one word alone was copied
pub overwritten_one : (words : List ℤ) (to from : ℕ) (others : List ℤ) (z : ℤ) → slice_index_or others (from + 0) (pos 0) ≡ z →
    slice_set words (to + 0) z ≡ overwritten words to (words_at others from 1)
overwritten_one words to from others z is =
    let place : to + 0 ≡ to = omega arith in
    let source : from ≡ from + 0 = omega arith in
    ap (λ t. slice_set words t z) place ∙ sym (ap (λ y. slice_set words to y) (ap (λ f. slice_index_or others f (pos 0)) source ∙ is))
