-- Counts while a text goes on.
use Rattle.std.proofs.Common.{◌≡◌, ◌==◌, ◌&&◌, ◌+◌, ◌-◌, ◌<◌, ◌≤◌, ◌^◌, ℕ, suc, true, false, if◌then◌else◌, min, inl, inr, List, [], ◌∷◌, ◌++◌, Option, None, Some, length, take, refl, sym, ap, ◌∙◌, arith, length-append, append-nil, append_assoc, not, get_or, option_map}
use Rattle.std.specs.Char.{is_ascii_digit}
use Rattle.std.specs.List.{fold, list_all}
use Rattle.std.proofs.Math.Seq.{take-nil}
use Rattle.std.specs.Str.{bytes_eq}
use Rattle.std.proofs.lemmas.Bool.{false≢true, cases_Bool, cases_lt, and_parts, lt-ltb, le-ltb, not-true}
use Rattle.std.proofs.lemmas.List.{length-take-le, take_all, take-append-le, length-set, get_or-set_same, get_or-set_other, get_or-replicate, length-replicate}
use Rattle.std.proofs.lemmas.List.Quantifiers.{position-Some}
use Rattle.std.proofs.lemmas.Slice.Eq.{bytes_eq-Decides}
use Rattle.std.proofs.lemmas.List.Sums.{fold-append}
use Rattle.std.proofs.lemmas.List.Folds.{list_all-append}
use Rattle.snl_watch.specs.Counts.{Cut, Reading, after, behind_digits, count_at, count_in, counted, counted_at, counts_of, cut, cut_on, kept, lines_showing, no_cut, place_of, reading_of, step, with_byte, zeros}
use Rattle.snl_output.specs.Devices.{told_more}
use Rattle.snl_watch.specs.Folds.{ends_line, is_in_line}
use Rattle.snl_watch.specs.Laws.{CountsGoOn, CountsAreExact}

-- what follows the digits, once a byte came that is behind a byte which is no digit
behind-more : (xs : List ℕ) (b : ℕ) → list_all is_ascii_digit xs ≡ false → behind_digits (xs ++ b ∷ []) ≡ behind_digits xs ++ b ∷ []
behind-more [] b odd = absurd (cc)
behind-more (x ∷ xs) b odd = elim (cases_Bool (is_ascii_digit x)) [
  | inl digit ↦ (let rest : list_all is_ascii_digit xs ≡ false = sym (ap (λ t. t && list_all is_ascii_digit xs) digit) ∙ odd in
      rw digit (behind-more xs b rest))
  | inr other ↦ rw other refl
]

-- what follows digits alone
behind-digits : (xs ys : List ℕ) → list_all is_ascii_digit xs ≡ true → behind_digits (xs ++ ys) ≡ behind_digits ys
behind-digits [] ys all = refl
behind-digits (x ∷ xs) ys all =
    let parts = and_parts (is_ascii_digit x) (list_all is_ascii_digit xs) all in
    rw parts.0 (behind-digits xs ys parts.1)

-- nothing follows digits alone
behind-none : (xs : List ℕ) → list_all is_ascii_digit xs ≡ true → behind_digits xs ≡ []
behind-none xs all = ap behind_digits (sym (append-nil xs)) ∙ behind-digits xs [] all

-- a byte is kept where there is room
kept-more : (room : ℕ) (xs : List ℕ) (b : ℕ) → kept room (take room xs) b ≡ take room (xs ++ b ∷ [])
kept-more room xs b = elim (cases_lt (length xs) room) [
  | inl here ↦ (let all : take room xs ≡ xs = take_all room xs (omega arith) in
      let more : take room (xs ++ b ∷ []) ≡ xs ++ b ∷ [] = take_all room (xs ++ b ∷ []) (omega (arith, length-append xs (b ∷ []))) in
      rw (all, more, lt-ltb (length xs) room here) refl)
  | inr full ↦ (let size : length (take room xs) ≡ room = length-take-le room xs full in
      let same : take room (xs ++ b ∷ []) ≡ take room xs = take-append-le room xs (b ∷ []) full in
      rw (same, le-ltb (length (take room xs)) room (omega arith)) refl)
]

-- a line that goes on
step-line : (room : ℕ) (begun : List ℕ) (counts : List ℕ) (b : ℕ) → let r : Reading = (list_all is_ascii_digit begun, take room (behind_digits begun), counts) in
    (if list_all is_ascii_digit begun && is_ascii_digit b then r else (false, kept room (take room (behind_digits begun)) b, counts))
    ≡ (list_all is_ascii_digit (begun ++ b ∷ []), take room (behind_digits (begun ++ b ∷ [])), counts)
step-line room begun counts b = elim (cases_Bool (list_all is_ascii_digit begun)) [
  | inl all ↦ (let none : behind_digits begun ≡ [] = behind-none begun all in
      elim (cases_Bool (is_ascii_digit b)) [
        | inl digit ↦ (let still : list_all is_ascii_digit (begun ++ b ∷ []) ≡ true = list_all-append is_ascii_digit begun (b ∷ []) ∙ rw (all, digit) refl in
            let behind : behind_digits (begun ++ b ∷ []) ≡ [] = behind-digits begun (b ∷ []) all ∙ rw digit refl in
            rw (all, digit, still, behind, none) refl)
        | inr other ↦ (let over : list_all is_ascii_digit (begun ++ b ∷ []) ≡ false = list_all-append is_ascii_digit begun (b ∷ []) ∙ rw (all, other) refl in
            let behind : behind_digits (begun ++ b ∷ []) ≡ b ∷ [] = behind-digits begun (b ∷ []) all ∙ rw other refl in
            rw (all, other, over, behind, none) (λ j. (false, kept-more room [] b j, counts)))
      ])
  | inr odd ↦ (let over : list_all is_ascii_digit (begun ++ b ∷ []) ≡ false = list_all-append is_ascii_digit begun (b ∷ []) ∙ rw odd refl in
      rw (odd, over, behind-more begun b odd) (λ j. (false, kept-more room (behind_digits begun) b j, counts)))
]

-- one more line
abbrev one : List (List ℕ) → ℕ → List ℕ → List ℕ → List ℕ
one keys room counts line = counted keys counts (take room (behind_digits line))

-- one byte more
step-reading : (keys : List (List ℕ)) (room : ℕ) (c : Cut) (b : ℕ) → step keys room (reading_of keys room c) b ≡ reading_of keys room (with_byte c b)
step-reading keys room c b = elim (cases_Bool (b == 10)) [
  | inl newline ↦ rw newline (λ j. (true, sym (take-nil room) j, sym (fold-append (one keys room) (zeros keys) c.done (c.begun ∷ [])) j))
  | inr other ↦ rw other (step-line room c.begun (counts_of keys room c.done) b)
]

-- what is known of a text that goes on
pub counts-go-on : CountsGoOn
counts-go-on keys room c [] = refl
counts-go-on keys room c (b ∷ bs) = ap (λ r. after keys room r bs) (step-reading keys room c b) ∙ counts-go-on keys room (with_byte c b) bs

-- ---- what is counted

-- a key that has a place is one of them
place-within : (keys : List (List ℕ)) (name : List ℕ) (k : ℕ) → place_of keys name ≡ Some k → k < length keys
place-within keys name k is = (position-Some (bytes_eq name) keys k [] is).0

-- counts keep their number
length-counted : (counts : List ℕ) (p : Option ℕ) → length (counted_at counts p) ≡ length counts
length-counted counts None = refl
length-counted counts (Some k) = length-set counts k _

-- another key changes nothing
other-stays : (counts : List ℕ) (p : Option ℕ) (key : ℕ) → (p ≡ Some key → ⊥) → count_at (counted_at counts p) key ≡ count_at counts key
other-stays counts None key other = refl
other-stays counts (Some k) key other = get_or-set_other counts k key _ 0 (λ e. other (ap (λ n. Some n) (sym e)))

-- ---- a text that goes on

-- the cut of a text that goes on
cut_on-append : (c : Cut) (xs ys : List ℕ) → cut_on c (xs ++ ys) ≡ cut_on (cut_on c xs) ys
cut_on-append c [] ys = refl
cut_on-append c (x ∷ xs) ys = cut_on-append (with_byte c x) xs ys

-- what a sink told before, where it tells a text now
pub record ToldBefore (old : Option (List ℕ)) (piece text : List ℕ) : Type 0 where
  pub before : List ℕ
  pub told : old ≡ Some before
  pub is : text ≡ before ++ piece

-- a value is what an option has
some-is : (a b : List ℕ) → Some a ≡ Some b → a ≡ b
some-is a b e = cc

-- a sink that tells a text told the front of it before it took a piece
pub told-before : (old : Option (List ℕ)) (piece text : List ℕ) → told_more old piece ≡ Some text → ToldBefore old piece text
told-before None piece text is = absurd (cc)
told-before (Some before) piece text is = record { before = before; told = refl; is = sym (some-is (before ++ piece) text is) }

-- what is known once a piece was taken
pub reading-more : (keys : List (List ℕ)) (room : ℕ) (before piece : List ℕ) → after keys room (reading_of keys room (cut before)) piece ≡ reading_of keys room (cut (before ++ piece))
reading-more keys room before piece = counts-go-on keys room (cut before) piece ∙ ap (reading_of keys room) (sym (cut_on-append no_cut before piece))

-- ---- a text that is counted

-- the key at the first place of a name is that name
name-at : (keys : List (List ℕ)) (name : List ℕ) (k : ℕ) → place_of keys name ≡ Some k → name ≡ get_or keys k []
name-at keys name k is = (bytes_eq-Decides name (get_or keys k [])).0 (position-Some (bytes_eq name) keys k [] is).1

-- of a line of which not all is looked at, more is kept than a key has
kept-is : (room : ℕ) (rest key : List ℕ) → length key < room → take room rest ≡ key → rest ≡ key
kept-is room rest key few is = elim (cases_lt room (length rest)) [
  | inl more ↦ absurd (omega (arith, few, more, ap length is, length-take-le room rest (omega (arith, more))))
  | inr all ↦ sym (take_all room rest (omega (arith, all))) ∙ is
]

-- what is kept of a line has the place of a key exactly where the line shows it
shows-right : (keys : List (List ℕ)) (room k : ℕ) (rest key : List ℕ) → length key < room → place_of keys key ≡ Some k → place_of keys (take room rest) ≡ Some k → rest ≡ key
shows-right keys room k rest key few is place =
    kept-is room rest key few (name-at keys (take room rest) k place ∙ sym (name-at keys key k is))

-- and the other way round
shows-left : (keys : List (List ℕ)) (room k : ℕ) (rest key : List ℕ) → length key < room → place_of keys key ≡ Some k → rest ≡ key → place_of keys (take room rest) ≡ Some k
shows-left keys room k rest key few is same =
    ap (λ r. place_of keys (take room r)) same ∙ ap (place_of keys) (take_all room key (omega (arith, few))) ∙ is

-- what a key that is counted has
record IsCounted (keys : List (List ℕ)) (room : ℕ) (counts key : List ℕ) (n : ℕ) : Type 0 where
  few : length key < room
  place : ℕ
  found : place_of keys key ≡ Some place
  count : count_at counts place ≡ n

-- a number is what an option has
some-nat : (a b : ℕ) → Some a ≡ Some b → a ≡ b
some-nat a b e = cc

-- a key whose count is told has a place
counted-at : (keys : List (List ℕ)) (room : ℕ) (counts key : List ℕ) (n : ℕ) (p : Option ℕ) → length key < room → place_of keys key ≡ p → option_map (count_at counts) p ≡ Some n →
    IsCounted keys room counts key n
counted-at keys room counts key n None few found is = absurd (cc)
counted-at keys room counts key n (Some k) few found is = record { few = few; place = k; found = found; count = some-nat (count_at counts k) n is }

-- the same, by its bytes
is-counted : (keys : List (List ℕ)) (room : ℕ) (counts key : List ℕ) (n : ℕ) → count_in keys room counts key ≡ Some n → IsCounted keys room counts key n
is-counted keys room counts key n is = elim (cases_lt (length key) room) [
  | inl few ↦ counted-at keys room counts key n (place_of keys key) few refl
      (sym (ap (λ b. if b then option_map (count_at counts) (place_of keys key) else None) (lt-ltb (length key) room few)) ∙ is)
  | inr many ↦ absurd (none-is (sym (ap (λ b. if b then option_map (count_at counts) (place_of keys key) else None) (le-ltb (length key) room many)) ∙ is))
]
  where
    none-is : None ≡ Some n → ⊥
    none-is e = absurd (cc)

-- a key has as many more as lines show it
count-exact : (keys : List (List ℕ)) (room key : ℕ) (text : List ℕ) (lines : List (List ℕ)) (counts : List ℕ) → length text < room → place_of keys text ≡ Some key →
    length counts ≡ length keys → count_at counts key ≤ 2 ^ 64 - 1 →
    count_at (fold (one keys room) counts lines) key ≡ min (count_at counts key + lines_showing text lines) (2 ^ 64 - 1)
count-exact keys room key text [] counts few found size fits = omega (arith, fits)
count-exact keys room key text (line ∷ lines) counts few found size fits =
    let rest = behind_digits line in
    let p = place_of keys (take room rest) in
    let within : key < length counts = omega (arith, size, place-within keys text key found) in
    let on = count-exact keys room key text lines (counted_at counts p) few found (length-counted counts p ∙ size) in
    elim (cases_Bool (bytes_eq rest text)) [
      | inl shows ↦ (let here : p ≡ Some key = shows-left keys room key rest text few found ((bytes_eq-Decides rest text).0 shows) in
          let more : count_at (counted_at counts p) key ≡ min (count_at counts key + 1) (2 ^ 64 - 1) =
          ap (λ q. count_at (counted_at counts q) key) here ∙ get_or-set_same counts key _ 0 within in
          on (omega (arith, more)) ∙ rw shows (omega (arith, more)))
      | inr other ↦ (let isnt : p ≡ Some key → ⊥ = λ is. absurd (false≢true (sym other ∙ (bytes_eq-Decides rest text).1 (shows-right keys room key rest text few found is))) in
          let same : count_at (counted_at counts p) key ≡ count_at counts key = other-stays counts p key isnt in
          on (omega (arith, same, fits)) ∙ rw other (omega (arith, same)))
    ]

-- a text that is counted has as many as lines show it
pub counts-are-exact : CountsAreExact
counts-are-exact keys room lines key n is =
    let c = is-counted keys room (counts_of keys room lines) key n is in
    let begin : count_at (zeros keys) c.place ≡ 0 = get_or-replicate (length keys) c.place 0 0 (place-within keys key c.place c.found) in
    let all = count-exact keys room c.place key lines (zeros keys) c.few c.found (length-replicate (length keys) 0) (omega (arith, begin)) in
    omega (arith, c.count, all, begin)

-- ---- a line that comes whole

-- a line that ends, of which some has begun
line-ends : (keys : List (List ℕ)) (room : ℕ) (begun line counts : List ℕ) → ends_line line ≡ true → is_in_line line ≡ true →
    after keys room (list_all is_ascii_digit begun, take room (behind_digits begun), counts) line
    ≡ (true, [], counted keys counts (take room (behind_digits (begun ++ take (length line - 1) line))))
line-ends keys room begun [] counts ends one = absurd (cc)
line-ends keys room begun (b ∷ []) counts ends one = rw ends (λ j. (true, [], counted keys counts (take room (behind_digits (sym (append-nil begun) j)))))
line-ends keys room begun (b ∷ c ∷ bs) counts ends one =
    let parts = and_parts (not (b == 10)) (is_in_line (c ∷ bs)) one in
    let other : (b == 10) ≡ false = not-true (b == 10) parts.0 in
    let first : step keys room (list_all is_ascii_digit begun, take room (behind_digits begun), counts) b
    ≡ (list_all is_ascii_digit (begun ++ b ∷ []), take room (behind_digits (begun ++ b ∷ [])), counts) = rw other (step-line room begun counts b) in
    let size : length (b ∷ c ∷ bs) - 1 ≡ suc (length (c ∷ bs) - 1) = omega arith in
    let front : (begun ++ b ∷ []) ++ take (length (c ∷ bs) - 1) (c ∷ bs) ≡ begun ++ take (length (b ∷ c ∷ bs) - 1) (b ∷ c ∷ bs) =
    append_assoc begun (b ∷ []) (take (length (c ∷ bs) - 1) (c ∷ bs)) ∙ ap (λ k. begun ++ take k (b ∷ c ∷ bs)) (sym size) in
    ap (λ r. after keys room r (c ∷ bs)) first ∙ line-ends keys room (begun ++ b ∷ []) (c ∷ bs) counts ends parts.1
    ∙ (λ j. (true, [], counted keys counts (take room (behind_digits (front j)))))

-- a line is counted by what follows its digits
pub line-counted : (keys : List (List ℕ)) (room : ℕ) (line counts : List ℕ) → ends_line line ≡ true → is_in_line line ≡ true →
    after keys room (true, [], counts) line ≡ (true, [], counted keys counts (take room (behind_digits (take (length line - 1) line))))
line-counted keys room line counts ends one = (λ j. after keys room (true, sym (take-nil room) j, counts) line) ∙ line-ends keys room [] line counts ends one
