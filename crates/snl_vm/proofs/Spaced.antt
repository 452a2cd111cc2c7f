-- The elements of a variable, as a line has them.
use Rattle.std.proofs.Common.{◌≡◌, ◌∙◌, ◌+◌, ◌-◌, ◌<◌, ℕ, suc, ℤ, pos, arith, List, [], ◌∷◌, ◌++◌, ap, sym, append-nil, slice_index_or}
use Rattle.std.specs.Fmt.{signed_decimal}
use Rattle.snl_meaning.specs.Printing.{spaced}
use Rattle.snl_meaning.specs.World.{words_at}

-- the elements from one on: that one, and then the others
pub elements-here : (words : List ℤ) (place size n : ℕ) (z : ℤ) → n < size → slice_index_or words (place + n) (pos 0) ≡ z →
    spaced (words_at words (place + n) (size - n)) ≡ (32 ∷ (signed_decimal z ++ [])) ++ spaced (words_at words (place + (n + 1)) (size - (n + 1)))
elements-here words place size n z less is =
    let left : size - n ≡ suc (size - (n + 1)) = omega (arith, less) in
    let later : place + (n + 1) ≡ suc (place + n) = omega arith in
    let rest = spaced (words_at words (suc (place + n)) (size - (n + 1))) in
    ap (λ k. spaced (words_at words (place + n) k)) left
    ∙ ap (λ y. 32 ∷ (signed_decimal y ++ rest)) is
    ∙ ap (λ d. 32 ∷ (d ++ rest)) (sym (append-nil (signed_decimal z)))
    ∙ ap (λ p. 32 ∷ ((signed_decimal z ++ []) ++ spaced (words_at words p (size - (n + 1))))) (sym later)
