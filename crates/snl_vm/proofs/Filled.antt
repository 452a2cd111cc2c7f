-- Numbers that are put into words, one after another.
use Rattle.std.proofs.Common.{◌≡◌, ◌∙◌, ◌+◌, ◌<◌, ◌≤◌, ℕ, suc, ℤ, List, ◌∷◌, ap, sym, arith, length, get_or, slice_set, drop}
use Rattle.std.proofs.lemmas.List.{drop_all, drop_more}
use Rattle.snl_meaning.specs.World.{overwritten}

-- one number more was put
pub filled-more : (words : List ℤ) (to n : ℕ) (numbers : List ℤ) (z : ℤ) → n < length numbers → z ≡ get_or numbers n z →
    overwritten (slice_set words (to + n) z) (to + (n + 1)) (drop (n + 1) numbers) ≡ overwritten words (to + n) (drop n numbers)
filled-more words to n numbers z within is =
    let later : to + (n + 1) ≡ suc (to + n) = omega arith in
    let rest = drop (n + 1) numbers in
    ap (λ t. overwritten (slice_set words (to + n) z) t rest) later
    ∙ ap (λ y. overwritten words (to + n) (y ∷ rest)) is
    ∙ ap (λ ys. overwritten words (to + n) ys) (sym (drop_more numbers n z within))

-- all of them were
pub filled-all : (words : List ℤ) (to n : ℕ) (numbers all : List ℤ) → length numbers ≤ n → overwritten words (to + n) (drop n numbers) ≡ all → words ≡ all
filled-all words to n numbers all beyond before = ap (λ ys. overwritten words (to + n) ys) (sym (drop_all n numbers beyond)) ∙ before
