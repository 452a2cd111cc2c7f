-- Bits of words as marks of places.
use Rattle.std.proofs.Common.{◌≡◌, ◌≢◌, ◌∙◌, ◌+◌, ◌-◌, ◌*◌, ◌/◌, ◌%◌, ◌^◌, ◌<◌, ◌≤◌, ℕ, List, Option, None, Some, Bool, true, false, inl, inr, refl, sym, ap, subst, arith, w64, length, replicate, slice_set, slice_index_or, bit_and, bit_or, nat_eq, nat_lt, if◌then◌else◌, ltb-true, ltb-false}
use Rattle.std.proofs.lemmas.Bool.{cases_eq, cases_lt}
use Rattle.std.proofs.lemmas.Grind.{get_or_default_zero}
use Rattle.std.proofs.lemmas.List.{ext_get_or, get_or_past, get_or-set_same, get_or-set_other, get_or-replicate, length-set, length-replicate, set_past}
use Rattle.std.proofs.lemmas.List.FromFn.{length-map-range_with_len, get_or-map-range_with_len}
use Rattle.std.proofs.lemmas.Nat.{shr-shr}
use Rattle.std.proofs.lemmas.Nat.Bits.{shr_and_one, bit_at-zero, bit_at_above, bit_at_set_same, bit_at_set_other, bit_at_clear_same, bit_at_clear_other, bit_at-trailing_zeros}
use Rattle.std.specs.Int.{bit_at, bit_not, trailing_zeros}
use Rattle.snl_vm.specs.Marks.{has, IsFirst, bit_of, marks_in, if_within}

module _ (words : List ℕ) (count : ℕ) where
  -- a place that is there has its bit
  pub has-within : (place : ℕ) → place < count → has (marks_in words count) place ≡ bit_of words place
  has-within place within = get_or-map-range_with_len (bit_of words) 0 count place place false within (omega arith)

  -- one that is not there has no mark
  pub has-beyond : (place : ℕ) → count ≤ place → has (marks_in words count) place ≡ false
  has-beyond place beyond = get_or_past (marks_in words count) place false (omega (arith, length-map-range_with_len (bit_of words) 0 count))

  -- the test of a bit
  pub has-test : (place word : ℕ) → place < count → slice_index_or words (place / 64) 0 ≡ word
      → has (marks_in words count) place ≡ nat_eq (bit_and (word / 2 ^ (place % 64)) 1) 1
  has-test place word within is =
      has-within place within ∙ ap (λ w. nat_eq (bit_at w (place % 64)) 1) is ∙ ap (λ b. nat_eq b 1) (sym (shr_and_one word (place % 64)))

  -- a mark of what is not there changes nothing
  pub set-beyond : (place : ℕ) (mark : Bool) → count ≤ place → marks_in words count ≡ slice_set (marks_in words count) place mark
  set-beyond place mark beyond = sym (set_past (marks_in words count) place mark (omega (arith, length-map-range_with_len (bit_of words) 0 count)))

  -- a place whose bit is 0 has no mark
  pub no-mark : (place : ℕ) → bit_at (slice_index_or words (place / 64) 0) (place % 64) ≡ 0 → has (marks_in words count) place ≡ false
  no-mark place none =
      elim (cases_lt place count) [
        | inl within ↦ has-within place within ∙ ap (λ b. nat_eq b 1) none
        | inr beyond ↦ has-beyond place beyond
      ]

  -- nor has one whose word is 0
  pub zero-word : (place : ℕ) → slice_index_or words (place / 64) 0 ≡ 0 → has (marks_in words count) place ≡ false
  zero-word place is = no-mark place (ap (λ w. bit_at w (place % 64)) is ∙ bit_at-zero (place % 64))

-- a word that was read
pub word-read : (words : List ℕ) (k word : ℕ) → k < length words → word ≡ slice_index_or words k word → slice_index_or words k 0 ≡ word
word-read words k word within read = sym (get_or_default_zero words k word within) ∙ sym read

-- a row of zeros has nothing but zeros
pub all-zero : (n k : ℕ) → ◌≡◌ {A = ℕ} (slice_index_or (replicate n 0) k 0) 0
all-zero n k =
    elim (cases_lt k n) [
      | inl within ↦ get_or-replicate n k 0 0 within
      | inr beyond ↦ get_or_past (replicate n 0) k 0 (omega (arith, length-replicate {A = ℕ} n 0, beyond))
    ]

-- words of zeros mark nothing
pub none-marked : (words : List ℕ) (count : ℕ) → ((k : ℕ) → slice_index_or words k 0 ≡ 0) → marks_in words count ≡ replicate count false
none-marked words count zeros =
    let long : length (marks_in words count) ≡ count = length-map-range_with_len (bit_of words) 0 count in
    ext_get_or false (marks_in words count) (replicate count false) (long ∙ sym (length-replicate count false))
    (λ k less. no-mark words count k (ap (λ w. bit_at w (k % 64)) (zeros (k / 64)) ∙ bit_at-zero (k % 64)) ∙ sym (get_or-replicate count k false false (omega (arith, long, less))))

-- words that differ in the bit of one place
pub one-differs : (words new : List ℕ) (count place : ℕ) (mark : Bool) → place < count → bit_of new place ≡ mark
    → ((k : ℕ) → k ≢ place → bit_of new k ≡ bit_of words k) → marks_in new count ≡ slice_set (marks_in words count) place mark
one-differs words new count place mark within here others =
    let long : length (marks_in words count) ≡ count = length-map-range_with_len (bit_of words) 0 count in
    let as_long : length (marks_in new count) ≡ count = length-map-range_with_len (bit_of new) 0 count in
    ext_get_or false (marks_in new count) (slice_set (marks_in words count) place mark) (as_long ∙ sym long ∙ sym (length-set (marks_in words count) place mark))
    (λ k less. let small : k < count = omega (arith, as_long, less) in
    elim (cases_eq k place) [
      | inl same ↦ has-within new count k small ∙ ap (bit_of new) same ∙ here
          ∙ sym (ap (λ j. slice_index_or (slice_set (marks_in words count) place mark) j false) same
          ∙ get_or-set_same (marks_in words count) place mark false (omega (arith, long, within)))
      | inr other ↦ has-within new count k small ∙ others k other ∙ sym (has-within words count k small)
          ∙ sym (get_or-set_other (marks_in words count) place k mark false other)
    ])

module _ (words : List ℕ) (count place word changed : ℕ) (held : count ≤ 64 * length words) (within : place < count) (is : slice_index_or words (place / 64) 0 ≡ word)
    (same_word : (i : ℕ) → i < 64 → i ≢ place % 64 → bit_at changed i ≡ bit_at word i) where
  abbrev pub new : List ℕ
  new = slice_set words (place / 64) changed

  -- the changed word
  here : slice_index_or new (place / 64) 0 ≡ changed
  here = get_or-set_same words (place / 64) changed 0 (omega (arith, held, within))

  -- the other places keep their bits
  others : (k : ℕ) → k ≢ place → bit_of new k ≡ bit_of words k
  others k other =
      elim (cases_eq (k / 64) (place / 64)) [
        | inl together ↦
            ap (λ b. nat_eq b 1) (ap (λ q. bit_at (slice_index_or new q 0) (k % 64)) together ∙ ap (λ w. bit_at w (k % 64)) here
            ∙ same_word (k % 64) (omega arith) (λ same. other (omega (arith, together, same)))
            ∙ sym (ap (λ q. bit_at (slice_index_or words q 0) (k % 64)) together ∙ ap (λ w. bit_at w (k % 64)) is))
        | inr apart ↦ ap (λ w. nat_eq (bit_at w (k % 64)) 1) (get_or-set_other words (place / 64) (k / 64) changed 0 apart)
      ]

  -- a word with another bit for a place
  pub word-set : (mark : Bool) → nat_eq (bit_at changed (place % 64)) 1 ≡ mark → marks_in new count ≡ slice_set (marks_in words count) place mark
  word-set mark at =
      one-differs words new count place mark within (ap (λ w. nat_eq (bit_at w (place % 64)) 1) here ∙ at) others

-- a bit is set
pub marked-in : (words : List ℕ) (count place word : ℕ) → count ≤ 64 * length words → place < count → slice_index_or words (place / 64) 0 ≡ word
    → marks_in (slice_set words (place / 64) (bit_or word (1 * 2 ^ (place % 64) % 2 ^ 64))) count ≡ slice_set (marks_in words count) place true
marked-in words count place word held within is =
    let small : place % 64 < 64 = omega arith in
    word-set words count place word (bit_or word (1 * 2 ^ (place % 64) % 2 ^ 64)) held within is (λ i _ other. bit_at_set_other w64 word (place % 64) small i other) true
    (ap (λ b. nat_eq b 1) (bit_at_set_same w64 word (place % 64) small))

-- a bit is cleared
pub unmarked-in : (words : List ℕ) (count place word : ℕ) → count ≤ 64 * length words → place < count → slice_index_or words (place / 64) 0 ≡ word
    → marks_in (slice_set words (place / 64) (bit_and word (bit_not w64 (1 * 2 ^ (place % 64) % 2 ^ 64)))) count ≡ slice_set (marks_in words count) place false
unmarked-in words count place word held within is =
    let small : place % 64 < 64 = omega arith in
    word-set words count place word (bit_and word (bit_not w64 (1 * 2 ^ (place % 64) % 2 ^ 64))) held within is
    (λ i less other. bit_at_clear_other w64 word (place % 64) small i less other) false
    (ap (λ b. nat_eq b 1) (bit_at_clear_same w64 word (place % 64) small))

-- ---- the first mark

module _ (words : List ℕ) (count word start left : ℕ) (small : start < 64) (fits : slice_index_or words word 0 < 2 ^ 64)
    (is : slice_index_or words word 0 / 2 ^ start ≡ left) where
  -- the bits of what is left of a word are those from the start on
  bit-left : (k : ℕ) → k / 64 ≡ word → start ≤ k % 64 → bit_at (slice_index_or words (k / 64) 0) (k % 64) ≡ bit_at left (k % 64 - start)
  bit-left k there after =
      let split : k % 64 ≡ start + (k % 64 - start) = omega (arith, after) in
      ap (λ q. bit_at (slice_index_or words q 0) (k % 64)) there ∙ ap (bit_at (slice_index_or words word 0)) split
      ∙ ap (λ x. x % 2) (sym (shr-shr (slice_index_or words word 0) start (k % 64 - start)) ∙ ap (λ x. x / 2 ^ (k % 64 - start)) is)

  -- nothing is left: no mark from the start to the end of the word
  pub none-left : left ≡ 0 → (k : ℕ) → 64 * word + start ≤ k → k < 64 * (word + 1) → has (marks_in words count) k ≡ false
  none-left empty k from below =
      no-mark words count k
      (bit-left k (omega (arith, small, from, below)) (omega (arith, small, from, below)) ∙ ap (λ x. bit_at x (k % 64 - start)) empty ∙ bit_at-zero (k % 64 - start))

  -- the lowest bit of what is left lies in the word
  pub left-inside : 0 < left → left < 2 ^ 64 → start + trailing_zeros w64 left < 64
  left-inside some fits_left =
      let tz = trailing_zeros w64 left in
      elim (cases_lt (start + tz) 64) [
        | inl less ↦ less
        | inr more ↦
            let shown : bit_at (slice_index_or words word 0) (start + tz) ≡ bit_at left tz =
            ap (λ x. x % 2) (sym (shr-shr (slice_index_or words word 0) start tz) ∙ ap (λ x. x / 2 ^ tz) is)
            in
            absurd (omega (arith, shown, (bit_at-trailing_zeros w64 left some fits_left).1, bit_at_above (slice_index_or words word 0) 64 (start + tz) fits more))
      ]

  -- and is the first mark
  pub first-left : 0 < left → left < 2 ^ 64 → IsFirst (marks_in words count) (64 * word + start) (if_within count (64 * word + start + trailing_zeros w64 left))
  first-left some fits_left = by (nat_lt place count) refl
    where
      lowest : (trailing_zeros w64 left < 64) × (bit_at left (trailing_zeros w64 left) ≡ 1) × ((i : ℕ) → i < trailing_zeros w64 left → bit_at left i ≡ 0)
      lowest = bit_at-trailing_zeros w64 left some fits_left

      tz : ℕ
      tz = trailing_zeros w64 left

      place : ℕ
      place = 64 * word + start + tz

      inside : start + tz < 64
      inside = left-inside some fits_left

      here : bit_of words place ≡ true
      here =
          let at : place % 64 - start ≡ tz = omega (arith, inside) in
          ap (λ b. nat_eq b 1) (bit-left place (omega (arith, inside)) (omega (arith, inside)) ∙ ap (bit_at left) at ∙ lowest.1)

      before : (k : ℕ) → 64 * word + start ≤ k → k < place → has (marks_in words count) k ≡ false
      before k from less =
          no-mark words count k
          (bit-left k (omega (arith, inside, from, less)) (omega (arith, inside, from, less)) ∙ lowest.2 (k % 64 - start) (omega (arith, inside, from, less)))

      by : (b : Bool) → nat_lt place count ≡ b → IsFirst (marks_in words count) (64 * word + start) (if b then Some place else None)
      by true within = record {
        after = omega arith;
        marked = has-within words count place (ltb-true place count within) ∙ here;
        others = before;
      }
      by false beyond = λ k from.
          elim (cases_lt k place) [
            | inl less ↦ before k from less
            | inr more ↦ has-beyond words count k (omega (arith, more, ltb-false place count beyond))
          ]

-- the same of a whole word
pub first-word : (words : List ℕ) (count word left : ℕ) → slice_index_or words word 0 ≡ left → 0 < left → left < 2 ^ 64
    → IsFirst (marks_in words count) (64 * word) (if_within count (word * 64 + trailing_zeros w64 left))
first-word words count word left is some fits =
    let same : 64 * word + 0 + trailing_zeros w64 left ≡ word * 64 + trailing_zeros w64 left = omega arith in
    let from : 64 * word + 0 ≡ 64 * word = omega arith in
    subst (λ a. IsFirst (marks_in words count) a (if_within count (word * 64 + trailing_zeros w64 left))) from
    (subst (λ p. IsFirst (marks_in words count) (64 * word + 0) (if_within count p)) same
    (first-left words count word 0 left (omega arith) (omega (arith, is, fits)) (omega (arith, is)) some fits))

-- a word of zeros
pub none-word : (words : List ℕ) (count word : ℕ) → slice_index_or words word 0 ≡ 0 → (k : ℕ) → 64 * word ≤ k → k < 64 * (word + 1) → has (marks_in words count) k ≡ false
none-word words count word is k from below = none-left words count word 0 0 (omega arith) (omega (arith, is)) (omega (arith, is)) refl k (omega (arith, from)) below

-- the first one from later on is the first one from here, where none stands between
pub first-later : (marks : List Bool) (from later : ℕ) (found : Option ℕ) → from ≤ later → ((k : ℕ) → from ≤ k → k < later → has marks k ≡ false)
    → IsFirst marks later found → IsFirst marks from found
first-later marks from later (Some place) before none first = record {
  after = omega (arith, first.after);
  marked = first.marked;
  others = λ k after less. elim (cases_lt k later) [ inl sooner ↦ none k after sooner | inr rest ↦ first.others k rest less ];
}
first-later marks from later None before none first = λ k after. elim (cases_lt k later) [ inl sooner ↦ none k after sooner | inr rest ↦ first k rest ]
