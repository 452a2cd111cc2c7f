-- Laws of the numbers that digits spell.
use Rattle.std.proofs.Common.{◌≡◌, ℕ, inl, inr, ◌+◌, ◌*◌, ◌^◌, ◌<◌, ◌≤◌, ◌&&◌, true, false, List, [], ◌∷◌, ◌++◌, Option, None, Some, refl, sym, ap, ◌∙◌, arith, add-one, length, take, drop, length-append, append-nil}
use denote.Ref.{Bor}
use Rattle.std.proofs.Math.Nat.{pow-suc, pow-le-pow_right}
use Rattle.std.proofs.Math.Bool.{and-false}
use Rattle.std.proofs.lemmas.Bool.{cases_Bool, and_parts, le-leb, lt-leb}
use Rattle.std.proofs.lemmas.List.{take-append-drop, length-take-le}
use Rattle.std.proofs.lemmas.List.Folds.{list_all-append}
use Rattle.std.specs.Char.{is_ascii_digit}
use Rattle.std.specs.List.{list_all}
use Rattle.std.specs.Str.Parse.{digits_value}
use Rattle.snl_trace.specs.Fields.{is_blank, begins_with}
use Rattle.snl_trace.specs.Numbers.{spelled_number, spelled_value, from_zero, below_zero}
use Rattle.snl_trace.specs.Reading.{front, at_end, IsRun, Reads, begins_with_digit}
use Rattle.snl_trace.proofs.FieldLaws.{front-more, front-none}

-- a digit more takes a power of ten more
pub digit-below : (number digit i : ℕ) → number < 10 ^ i → digit < 10 → number * 10 + digit < 10 ^ (i + 1)
digit-below number digit i small below = rw (add-one, pow-suc) (omega arith)

-- before the nineteenth digit there is room for one more
pub room-below : (number i : ℕ) → i < 19 → number < 10 ^ i → number < 10 ^ 18
room-below number i few small =
    let at_most : i ≤ 18 = omega arith in
    let mono : 10 ^ i ≤ 10 ^ 18 = pow-le-pow_right {n = 10} (omega arith) {i = i} {j = 18} at_most in
    omega arith

-- a digit is no blank
digit-plain : (b : ℕ) → is_ascii_digit b ≡ true → is_blank b ≡ false
digit-plain b digit = grind arith

-- digits in front belong to the front
front-over : (xs rest : List ℕ) → list_all is_ascii_digit xs ≡ true → front (xs ++ rest) ≡ xs ++ front rest
front-over [] rest digits = refl
front-over (x ∷ xs) rest digits =
    let parts = and_parts (is_ascii_digit x) (list_all is_ascii_digit xs) digits in
    front-more x (xs ++ rest) (digit-plain x parts.0) ∙ ap (λ z. x ∷ z) (front-over xs rest parts.1)

-- the front of a text that begins with digits
front-digits : (text : List ℕ) (k : ℕ) → list_all is_ascii_digit (take k text) ≡ true → front text ≡ take k text ++ front (drop k text)
front-digits text k digits = ap front (sym (take-append-drop k text)) ∙ front-over (take k text) (drop k text) digits

-- what spells no number: bytes that are not all digits, too many, none
not-odd : (most : ℕ) (field : List ℕ) → list_all is_ascii_digit field ≡ false → spelled_number most field ≡ None
unfolding spelled_number
not-odd most field odd = rw (odd, and-false) refl

-- more than there may be
not-many : (most : ℕ) (field : List ℕ) → most < length field → spelled_number most field ≡ None
unfolding spelled_number
not-many most field many = rw (lt-leb (length field) most many, and-false) refl

-- none
not-none : (most : ℕ) → spelled_number most [] ≡ None
unfolding spelled_number
not-none most = refl

-- a front that ends in a byte that is no digit
odd-front : (most : ℕ) (xs rest : List ℕ) → begins_with_digit rest ≡ false → at_end rest ≡ false → spelled_number most (xs ++ front rest) ≡ None
odd-front most xs [] other goes_on = absurd (cc)
odd-front most xs (b ∷ bs) other goes_on =
    not-odd most (xs ++ front (b ∷ bs))
    (list_all-append is_ascii_digit xs (front (b ∷ bs)) ∙ ap (λ f. list_all is_ascii_digit xs && list_all is_ascii_digit f) (front-more b bs goes_on)
    ∙ rw (other, and-false) refl)

-- a text that begins with digits, then with another byte that is no blank
pub run-odd : (number count most : ℕ) (text : List ℕ) → IsRun number count most text → at_end (drop count text) ≡ false → spelled_number most (front text) ≡ None
run-odd number count most text run goes_on = ap (spelled_number most) (front-digits text count run.digits) ∙ odd-front most (take count text) (drop count text) run.stops goes_on

-- one that begins with none
pub run-none : (number most : ℕ) (text : List ℕ) → begins_with_digit text ≡ false → spelled_number most (front text) ≡ None
run-none number most text other = elim (cases_Bool (at_end text)) [
  | inl ends ↦ ap (spelled_number most) (front-none text ends) ∙ not-none most
  | inr goes_on ↦ odd-front most [] text other goes_on
]

-- one that begins with more digits than there may be
pub run-many : (count most : ℕ) (text : List ℕ) → list_all is_ascii_digit (take count text) ≡ true → most < length (take count text) → spelled_number most (front text) ≡ None
run-many count most text digits many =
    ap (spelled_number most) (front-digits text count digits)
    ∙ not-many most (take count text ++ front (drop count text)) (omega (arith, many, length-append (take count text) (front (drop count text))))

-- few digits, and at least one, spell a number
pub all-digits : (number most : ℕ) (field : List ℕ) → 0 < length field → length field ≤ most → list_all is_ascii_digit field ≡ true → number ≡ digits_value 10 field →
    spelled_number most field ≡ Some number
unfolding spelled_number
all-digits number most field some few digits spelled =
    rw (le-leb 1 (length field) (omega (arith, some)), le-leb (length field) most few, digits) (ap (λ n. Some n) (sym spelled))

-- one that begins with a field of digits: its number, and what stands behind it
pub run-read : (number count most : ℕ) (text : List ℕ) → IsRun number count most text → 0 < count → at_end (drop count text) ≡ true →
    (spelled_number most (front text) ≡ Some number) × (drop count text ≡ drop (length (front text)) text)
run-read number count most text run some ends =
    let field : front text ≡ take count text = front-digits text count run.digits ∙ ap (λ f. take count text ++ f) (front-none (drop count text) ends) ∙ append-nil (take count text) in
    let size : length (take count text) ≡ count = length-take-le count text run.within in (
      ap (spelled_number most) field ∙ all-digits number most (take count text) (omega (arith, size, some)) (omega (arith, size, run.few)) run.digits run.spelled,
      ap (λ n. drop n text) (sym (ap length field ∙ size)),
    )

-- a text that begins with another byte than `-`
pub plain-value : (text : List ℕ) → begins_with 45 text ≡ false → spelled_value (front text) ≡ from_zero (spelled_number 19 (front text))
unfolding spelled_value front
plain-value [] other = refl
plain-value (b ∷ bs) other = elim (cases_Bool (is_blank b)) [ inl blank ↦ rw blank refl | inr plain ↦ rw (plain, other) refl ]

-- one that begins with `-`
pub signed-value : (text : List ℕ) → begins_with 45 text ≡ true → spelled_value (front text) ≡ below_zero (spelled_number 19 (front (drop 1 text)))
unfolding spelled_value
signed-value [] signed = absurd (cc)
signed-value (b ∷ bs) signed =
    let plain : is_blank b ≡ false = grind arith in
    ap spelled_value (front-more b bs plain) ∙ rw signed refl

-- what stands behind its front
pub signed-behind : (text : List ℕ) → begins_with 45 text ≡ true → drop (length (front (drop 1 text))) (drop 1 text) ≡ drop (length (front text)) text
signed-behind [] signed = absurd (cc)
signed-behind (b ∷ bs) signed =
    let plain : is_blank b ≡ false = grind arith in
    ap (λ f. drop (length f) (b ∷ bs)) (sym (front-more b bs plain))

-- the same reading, said of another text
pub reads-in : {A : Type 0} (read read' : Option A) (text text' : List ℕ) (found : Option (A × Bor (List ℕ))) → read' ≡ read →
    drop (length (front text)) text ≡ drop (length (front text')) text' → Reads read text found → Reads read' text' found
reads-in read read' text text' None is behind reads = is ∙ reads
reads-in read read' text text' (Some found) is behind reads = (is ∙ reads.0, reads.1 ∙ behind)
