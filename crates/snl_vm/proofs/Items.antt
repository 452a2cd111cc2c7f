-- Items of a ring of words.
use Rattle.std.proofs.Common.{◌≡◌, ◌∙◌, ◌+◌, ◌-◌, ◌*◌, ◌<◌, ◌≤◌, refl, ℕ, zero, suc, ℤ, pos, List, [], ◌∷◌, ◌++◌, ap, sym, arith, length, take, drop, slice_get, slice_set, slice_index_or, None, append_assoc, length-drop, nat_lt, true, false, if◌then◌else◌}
use Rattle.std.proofs.Math.Nat.{suc-mul, mul-le-mul_right}
use Rattle.std.proofs.lemmas.Bool.{lt-ltb, le-ltb}
use Rattle.std.proofs.lemmas.List.{take-append-le, drop-append-le, take_all, take_at, take-append-drop, length-take-le}
use Rattle.snl_meaning.specs.Queues.{kept}
use Rattle.snl_meaning.specs.World.{words_at, overwritten}
use Rattle.snl_vm.specs.Queues.{items_in, is_there, oldest_to}

-- ---- words

-- as many as were asked for
pub length-words_at : (words : List ℤ) (place n : ℕ) → length (words_at words place n) ≡ n
length-words_at words place zero = refl
length-words_at words place (suc n) = ap suc (length-words_at words (suc place) n)

-- the words from one on: that one, and then the others
pub words-here : (words : List ℤ) (place count n : ℕ) (z : ℤ) → n < count → slice_index_or words (place + n) (pos 0) ≡ z →
    words_at words (place + n) (count - n) ≡ z ∷ words_at words (place + (n + 1)) (count - (n + 1))
words-here words place count n z less is =
    let left : count - n ≡ suc (count - (n + 1)) = omega (arith, less) in
    let later : suc (place + n) ≡ place + (n + 1) = omega arith in
    ap (words_at words (place + n)) left
    ∙ ap (λ y. y ∷ words_at words (suc (place + n)) (count - (n + 1))) is
    ∙ ap (λ p. z ∷ words_at words p (count - (n + 1))) later

-- one word more was appended
pub appended-more : (items words : List ℤ) (place count n : ℕ) (z : ℤ) → n < count → slice_index_or words (place + n) (pos 0) ≡ z →
    (items ++ z ∷ []) ++ words_at words (place + (n + 1)) (count - (n + 1)) ≡ items ++ words_at words (place + n) (count - n)
appended-more items words place count n z less is = append_assoc items (z ∷ []) _ ∙ ap (λ x. items ++ x) (sym (words-here words place count n z less is))

-- behind one word more they stand one place later
words-later : (zs : List ℤ) (z : ℤ) (place n : ℕ) → words_at (z ∷ zs) (suc place) n ≡ words_at zs place n
words-later zs z place zero = refl
words-later zs z place (suc n) = ap (λ ws. slice_index_or zs place (pos 0) ∷ ws) (words-later zs z (suc place) n)

-- words that are there are those behind a place
words-drop : (words : List ℤ) (place n : ℕ) → place + n ≤ length words → words_at words place n ≡ take n (drop place words)
words-drop words place zero within = refl
words-drop [] place (suc n) within = absurd (omega (arith, within))
words-drop (z ∷ zs) zero (suc n) within = ap (λ ws. z ∷ ws) (words-later zs z 0 n ∙ words-drop zs 0 n (omega (arith, within)))
words-drop (z ∷ zs) (suc place) (suc n) within = words-later zs z place (suc n) ∙ words-drop zs place (suc n) (omega (arith, within))

-- one word more was copied from the front of others
pub copied-more : (words ring : List ℤ) (place n count : ℕ) (z : ℤ) → n < count → slice_index_or ring n (pos 0) ≡ z →
    overwritten (slice_set words (place + n) z) (place + (n + 1)) (words_at ring (n + 1) (count - (n + 1))) ≡ overwritten words (place + n) (words_at ring n (count - n))
copied-more words ring place n count z less is =
    let later : place + (n + 1) ≡ suc (place + n) = omega arith in
    let next : n + 1 ≡ suc n = omega arith in
    let left : count - n ≡ suc (count - (n + 1)) = omega (arith, less) in
    let rest = words_at ring (suc n) (count - (n + 1)) in
    ap (λ t. overwritten (slice_set words (place + n) z) t (words_at ring (n + 1) (count - (n + 1)))) later
    ∙ ap (λ f. overwritten (slice_set words (place + n) z) (suc (place + n)) (words_at ring f (count - (n + 1)))) next
    ∙ sym (ap (λ k. overwritten words (place + n) (words_at ring n k)) left ∙ ap (λ y. overwritten words (place + n) (y ∷ rest)) is)

-- no item has more words than there are
pub one-within : (n width k : ℕ) → 0 < n → k ≡ n * width → width ≤ k
one-within zero width k some is = absurd (omega (arith, some))
one-within (suc n) width k some is = omega (arith, is, suc-mul n width)

-- all but the first words, by how many are left
pub drop-first : (n width : ℕ) (words : List ℤ) → 0 < n → length words ≡ n * width → drop (length words - (length words - width)) words ≡ drop width words
drop-first n width words some is =
    let within : width ≤ length words = one-within n width (length words) some is in
    let left : length words - (length words - width) ≡ width = omega (arith, within) in
    ap (λ k. drop k words) left

-- where no word is, 0 is read
pub index-none : (words : List ℤ) (k : ℕ) → slice_get words k ≡ None → slice_index_or words k (pos 0) ≡ pos 0
index-none [] k none = refl
index-none (z ∷ zs) zero none = absurd (cc)
index-none (z ∷ zs) (suc k) none = index-none zs k none

-- ---- items

-- as many as there are
pub length-items_in : (n width : ℕ) (words : List ℤ) → length (items_in n width words) ≡ n
length-items_in zero width words = refl
length-items_in (suc n) width words = ap suc (length-items_in n width (drop width words))

-- one item more
pub items_in-append : (n width : ℕ) (words item : List ℤ) → length words ≡ n * width → length item ≡ width →
    items_in (suc n) width (words ++ item) ≡ items_in n width words ++ item ∷ []
items_in-append zero width [] item is item_is = ap (λ x. x ∷ []) (take_all width item (omega (arith, item_is)))
items_in-append zero width (z ∷ zs) item is item_is = absurd (omega (arith, is))
items_in-append (suc n) width words item is item_is =
    let enough : width ≤ length words = omega (arith, is, suc-mul n width) in
    let rest : length (drop width words) ≡ n * width = omega (arith, is, suc-mul n width, length-drop width words) in
    ap (λ x. x ∷ items_in (suc n) width (drop width (words ++ item))) (take-append-le width words item enough)
    ∙ ap (λ x. take width words ∷ items_in (suc n) width x) (drop-append-le width words item enough)
    ∙ ap (λ is. take width words ∷ is) (items_in-append n width (drop width words) item rest item_is)

-- all but the newest
pub items_in-front : (n width : ℕ) (words : List ℤ) → length words ≡ suc n * width →
    take n (items_in (suc n) width words) ≡ items_in n width (take (n * width) words)
items_in-front n width words is =
    let front : length (take (n * width) words) ≡ n * width = length-take-le (n * width) words (omega (arith, is, suc-mul n width)) in
    let back : length (drop (n * width) words) ≡ width = omega (arith, is, suc-mul n width, length-drop (n * width) words) in
    ap (λ ws. take n (items_in (suc n) width ws)) (sym (take-append-drop (n * width) words))
    ∙ ap (take n) (items_in-append n width (take (n * width) words) (drop (n * width) words) front back)
    ∙ take_at (items_in n width (take (n * width) words)) _ n (length-items_in n width (take (n * width) words))

-- a full queue keeps all but the newest
pub kept-full : (n size width : ℕ) (words : List ℤ) → size ≤ n → 0 < size → length words ≡ n * width →
    items_in (n - 1) width (take (length words - width) words) ≡ kept size (items_in n width words)
kept-full zero size width words full some is = absurd (omega (arith, full, some))
kept-full (suc n) size width words full some is =
    let count = length-items_in (suc n) width words in
    let not_less : nat_lt (length (items_in (suc n) width words)) size ≡ false = le-ltb _ _ (omega (arith, count, full)) in
    let words_kept : length words - width ≡ n * width = omega (arith, is, suc-mul n width) in
    let items_kept : length (items_in (suc n) width words) - 1 ≡ n = omega (arith, count) in
    let one_less : suc n - 1 ≡ n = omega arith in
    ap (λ m. items_in m width (take (length words - width) words)) one_less
    ∙ ap (λ k. items_in n width (take k words)) words_kept
    ∙ sym (items_in-front n width words is)
    ∙ ap (λ k. take k (items_in (suc n) width words)) (sym items_kept)
    ∙ sym (ap (λ b. if b then items_in (suc n) width words else take (length (items_in (suc n) width words) - 1) (items_in (suc n) width words)) not_less)

-- one that is not full keeps all
pub kept-all : (n size width : ℕ) (words : List ℤ) → n < size → items_in n width words ≡ kept size (items_in n width words)
kept-all n size width words less =
    let count = length-items_in n width words in
    let is_less : nat_lt (length (items_in n width words)) size ≡ true = lt-ltb _ _ (omega (arith, count, less)) in
    sym (ap (λ b. if b then items_in n width words else take (length (items_in n width words) - 1) (items_in n width words)) is_less)

-- the oldest is gone
pub items_in-rest : (n width : ℕ) (words : List ℤ) → 0 < n → items_in (n - 1) width (drop width words) ≡ drop 1 (items_in n width words)
items_in-rest zero width words some = absurd (omega (arith, some))
items_in-rest (suc n) width words some = let one_less : suc n - 1 ≡ n = omega arith in ap (λ m. items_in m width (drop width words)) one_less

-- and stands among the words
pub oldest-words : (n width place : ℕ) (words to : List ℤ) → 0 < n → length words ≡ n * width →
    overwritten to place (words_at words 0 width) ≡ oldest_to (items_in n width words) place to
oldest-words zero width place words to some is = absurd (omega (arith, some))
oldest-words (suc n) width place words to some is = ap (overwritten to place) (words-drop words 0 width (omega (arith, is, suc-mul n width)))

-- there is one
pub some-there : (n width : ℕ) (words : List ℤ) → 0 < n → true ≡ is_there (items_in n width words)
some-there zero width words some = absurd (omega (arith, some))
some-there (suc n) width words some = refl

-- one item fewer
pub one-less : (n width k : ℕ) → 0 < n → k ≡ n * width → k - width ≡ (n - 1) * width
one-less zero width k some is = absurd (omega (arith, some))
one-less (suc n) width k some is =
    let one_less : suc n - 1 ≡ n = omega arith in
    let left : k - width ≡ n * width = omega (arith, is, suc-mul n width) in
    left ∙ sym (ap (λ m. m * width) one_less)

-- fewer items than there is room for: room for one more
pub one-more : (n size width : ℕ) → n < size → n * width + width ≤ size * width
one-more n size width less = let h : suc n * width ≤ size * width = mul-le-mul_right width less in omega (arith, h, suc-mul n width)
