-- The copies of a store, seen as those of its world.
use Rattle.std.proofs.Common.{◌≡◌, ◌∙◌, ◌+◌, ◌-◌, ◌<◌, refl, ℕ, zero, suc, ℤ, pos, Bool, true, false, List, [], ◌∷◌, ap, sym, arith, map, length, get_or, slice_set, slice_index_or}
use Rattle.snl_meaning.specs.World.{World, copy_of, no_copy, with_words_for, words_for, zeroed}
use Rattle.snl_vm.specs.declared.stores.SetMemory.{SetMemory}
use Rattle.snl_vm.specs.Views.{copy_view}

-- one copy was changed in its words
pub copy_changed : (cs : List SetMemory) (i : ℕ) (x new : SetMemory) (words : List ℤ → List ℤ) → i < length cs → x ≡ get_or cs i x
    → copy_view new ≡ record (copy_view x) { words = words x.words.items }
    → map copy_view (slice_set cs i new)
    ≡ slice_set (map copy_view cs) i (record (slice_index_or (map copy_view cs) i no_copy) { words = words (slice_index_or (map copy_view cs) i no_copy).words })
copy_changed [] i x new words within is changed = absurd (omega (arith, within))
copy_changed (c ∷ cs) zero x new words within is changed =
    ap (λ k. k ∷ map copy_view cs) (changed ∙ ap (λ (y : SetMemory). record (copy_view y) { words = words y.words.items }) is)
copy_changed (c ∷ cs) (suc i) x new words within is changed = ap (λ ks. copy_view c ∷ ks) (copy_changed cs i x new words (omega (arith, within)) is changed)

-- the words of a copy
pub copy_words : (cs : List SetMemory) (i : ℕ) (x : SetMemory) → i < length cs → x ≡ get_or cs i x → x.words.items ≡ (slice_index_or (map copy_view cs) i no_copy).words
copy_words [] i x within is = absurd (omega (arith, within))
copy_words (c ∷ cs) zero x within is = ap (λ (y : SetMemory). y.words.items) is
copy_words (c ∷ cs) (suc i) x within is = copy_words cs i x (omega (arith, within)) is

-- they are those of a variable that is not shared
pub words-unshared : (set : ℕ) (is_shared : Bool) (w : World) → is_shared ≡ false → (copy_of set w).words ≡ words_for set is_shared w
words-unshared set false w is = refl
words-unshared set true w is = absurd (cc)

-- one word more is 0
pub zeroed_more : (words : List ℤ) (place n count : ℕ) → n < count →
    zeroed (slice_set words (place + n) (pos 0)) (place + (n + 1)) (count - (n + 1)) ≡ zeroed words (place + n) (count - n)
zeroed_more words place n count less =
    let after : place + (n + 1) ≡ suc (place + n) = omega arith in
    let left : count - n ≡ suc (count - (n + 1)) = omega (arith, less) in
    ap (λ p. zeroed (slice_set words (place + n) (pos 0)) p (count - (n + 1))) after ∙ sym (ap (zeroed words (place + n)) left)

-- the words of a variable that is not shared are those of the copy
pub unshared : (set : ℕ) (is_shared : Bool) (words : List ℤ → List ℤ) (w : World) → is_shared ≡ false →
    record w { copies = slice_set w.copies set (record (copy_of set w) { words = words (copy_of set w).words }) } ≡ with_words_for set is_shared (words (words_for set is_shared w)) w
unshared set false words w is = refl
unshared set true words w is = absurd (cc)
