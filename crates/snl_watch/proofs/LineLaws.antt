-- Laws of texts and their lines.
use Rattle.std.proofs.Common.{◌≡◌, ◌==◌, ◌<◌, ◌+◌, ◌-◌, ℕ, suc, zero, true, false, not, List, [], ◌∷◌, ◌++◌, length, take, get_or, None, Some, refl, ap, ◌∙◌, arith, append_assoc, append-nil, inl, inr, if◌then◌else◌}
use Rattle.std.proofs.lemmas.Bool.{and_from, and_parts, cases_Bool, not-true}
use Rattle.memchr.specs.Find.{IsFirstByte, Nowhere, Passes, is_byte}
use Rattle.snl_watch.specs.Folding.{lines_behind, lines_of}
use Rattle.snl_watch.specs.Folds.{ends_line, is_in_line, lines_on}

-- the front of a text up to a byte before which no newline stands
in-line-within : (text : List ℕ) (k : ℕ) → ((j : ℕ) → suc j < k → (get_or text j 0 == 10) ≡ false) → is_in_line (take k text) ≡ true
in-line-within text zero none = refl
in-line-within [] (suc k) none = refl
in-line-within (x ∷ xs) (suc zero) none = refl
in-line-within (x ∷ []) (suc (suc k)) none = refl
in-line-within (x ∷ y ∷ xs) (suc (suc k)) none =
    and_from (not (x == 10)) (is_in_line (y ∷ take k xs)) (rw (none 0 (omega arith)) refl) (in-line-within (y ∷ xs) (suc k) (λ j below. none (suc j) (omega (arith, below))))

-- a text before whose last byte none stands
pub in-line-before : (text : List ℕ) → ((j : ℕ) → suc j < length text → (get_or text j 0 == 10) ≡ false) → is_in_line text ≡ true
in-line-before [] none = refl
in-line-before (x ∷ []) none = refl
in-line-before (x ∷ y ∷ xs) none =
    and_from (not (x == 10)) (is_in_line (y ∷ xs)) (rw (none 0 (omega arith)) refl) (in-line-before (y ∷ xs) (λ j below. none (suc j) (omega (arith, below))))

-- where no newline stands in front of a place, none is there
none-newline : (text : List ℕ) (k j : ℕ) → Nowhere (Passes (is_byte 10) text) 0 k → j < k → (get_or text j 0 == 10) ≡ false
none-newline text k j nowhere below = elim (cases_Bool (get_or text j 0 == 10)) [
  | inl newline ↦ absurd (nowhere j (omega arith) below newline)
  | inr other ↦ other
]

-- the front of a text up to its first newline,
pub in-line-first : (text : List ℕ) (k : ℕ) → IsFirstByte (is_byte 10) text (Some k) → is_in_line (take (k + 1) text) ≡ true
in-line-first text k first = in-line-within text (k + 1) (λ j below. none-newline text k j first.0.before (omega (arith, below)))

-- and all of it where it has none
pub in-line-none : (text : List ℕ) → IsFirstByte (is_byte 10) text None → is_in_line (take (length text) text) ≡ true
in-line-none text none = in-line-within text (length text) (λ j below. none-newline text (length text) j none (omega (arith, below)))

-- the front of a text with a newline at its end at most
pub in-line-front : (n : ℕ) (xs : List ℕ) → is_in_line xs ≡ true → is_in_line (take n xs) ≡ true
in-line-front zero xs all = refl
in-line-front (suc n) [] all = refl
in-line-front (suc zero) (a ∷ xs) all = refl
in-line-front (suc (suc n)) (a ∷ []) all = refl
in-line-front (suc (suc n)) (a ∷ b ∷ xs) all =
    let parts = and_parts (not (a == 10)) (is_in_line (b ∷ xs)) all in
    and_from (not (a == 10)) (is_in_line (b ∷ take n xs)) parts.0 (in-line-front (suc n) (b ∷ xs) parts.1)

-- the last byte says whether a text ends with a newline
pub ends-last : (xs : List ℕ) → 0 < length xs → (get_or xs (length xs - 1) 0 == 10) ≡ ends_line xs
ends-last [] some = absurd (omega (arith, some))
ends-last (x ∷ []) some = refl
ends-last (x ∷ y ∷ xs) some =
    let last : length (x ∷ y ∷ xs) - 1 ≡ suc (length (y ∷ xs) - 1) = omega arith in
    ap (λ k. get_or (x ∷ y ∷ xs) k 0 == 10) last ∙ ends-last (y ∷ xs) (omega arith)

-- what ends a text ends it with anything in front
pub ends-append : (xs : List ℕ) (y : ℕ) (ys : List ℕ) → ends_line (xs ++ y ∷ ys) ≡ ends_line (y ∷ ys)
ends-append [] y ys = refl
ends-append (x ∷ []) y ys = refl
ends-append (x ∷ a ∷ xs) y ys = ends-append (a ∷ xs) y ys

-- a line that has begun goes on
pub goes-on : (line piece rest : List ℕ) → ends_line line ≡ false → is_in_line piece ≡ true → lines_behind line (piece ++ rest) ≡ lines_on (line ++ piece) rest
goes-on line [] rest unended all = rw (append-nil line) (rw unended refl)
goes-on line (b ∷ []) rest unended all = elim (cases_Bool (b == 10)) [
  | inl here ↦ rw (ends-append line b []) (rw here refl)
  | inr other ↦ rw (ends-append line b []) (rw other refl)
]
goes-on line (b ∷ c ∷ piece) rest unended all =
    let parts = and_parts (not (b == 10)) (is_in_line (c ∷ piece)) all in
    let other : (b == 10) ≡ false = not-true (b == 10) parts.0 in
    let first : lines_behind line (b ∷ (c ∷ piece) ++ rest) ≡ lines_behind (line ++ b ∷ []) ((c ∷ piece) ++ rest) = rw other refl in
    first ∙ goes-on (line ++ b ∷ []) (c ∷ piece) rest (ends-append line b [] ∙ other) parts.1 ∙ ap (λ l. lines_on l rest) (append_assoc line (b ∷ []) (c ∷ piece))

-- the same of any line that no newline ended
pub goes-on-unended : (line piece rest : List ℕ) → ends_line line ≡ false → is_in_line piece ≡ true → lines_on line (piece ++ rest) ≡ lines_on (line ++ piece) rest
goes-on-unended line piece rest unended all = ap (λ b. if b then line ∷ lines_of (piece ++ rest) else lines_behind line (piece ++ rest)) unended ∙ goes-on line piece rest unended all
