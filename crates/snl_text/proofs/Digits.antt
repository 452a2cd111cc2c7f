-- Digits that make a number too large, or no number, whatever follows them.
use Rattle.std.proofs.Common.{◌≡◌, ℕ, ◌+◌, ◌*◌, ◌<◌, ◌≤◌, ◌^◌, Bool, true, false, List, [], ◌∷◌, length, get_or, take, drop, refl, ap, sym, ◌∙◌, arith, None, Some, fold}
use Rattle.std.specs.Prelude.{nat_lt}
use Rattle.std.specs.List.{list_all}
use Rattle.std.proofs.Math.Nat.{mul-le-mul_left}
use Rattle.std.proofs.lemmas.List.Recursion.{and_fails_at}
use Rattle.std.proofs.lemmas.List.Sums.{fold-append}
use Rattle.std.proofs.lemmas.List.{take-append-drop}
use Rattle.std.proofs.lemmas.Bool.Decides.{nat_tests}
use Rattle.snl_text.specs.Numbers.{digit_value, digits_value, numeral_value}

-- one digit more makes no value less
step : (value base d : ℕ) → 1 ≤ base → value ≤ value * base + d
step value base d h = omega (arith, mul-le-mul_left value h)

-- more digits never make a value less
pub grows : (base : ℕ) → 1 ≤ base → (value : ℕ) (digits : List ℕ) → value ≤ fold (λ v byte. v * base + digit_value byte) value digits
grows base h value [] = omega arith
grows base h value (x ∷ xs) =
    let more = grows base h (value * base + digit_value x) xs in
    let first = step value base (digit_value x) h in
    omega (arith, more, first)

-- the first digits are worth no more than all
pub front_grows : (base : ℕ) → 1 ≤ base → (digits : List ℕ) (i : ℕ) → digits_value base (take i digits) ≤ digits_value base digits
front_grows base h digits i =
    let f : ℕ → ℕ → ℕ = λ v byte. v * base + digit_value byte in
    let whole : digits_value base digits ≡ fold f (digits_value base (take i digits)) (drop i digits) =
    ap (fold f 0) (sym (take-append-drop i digits)) ∙ fold-append f 0 (take i digits) (drop i digits) in
    rw whole (grows base h (digits_value base (take i digits)) (drop i digits))

-- a byte that is no digit of the base
pub stray : (base : ℕ) (digits : List ℕ) (i : ℕ) → i < length digits → base ≤ digit_value (get_or digits i 0) → numeral_value base digits ≡ None
unfolding numeral_value
stray base digits i h d =
    let p : ℕ → Bool = λ byte. nat_lt (digit_value byte) base in
    let no : p (get_or digits i 0) ≡ false = grind (arith, nat_tests) in
    let fails : list_all p digits ≡ false = and_fails_at (list_all p) p refl (λ _ _. refl) digits i 0 h no in
    rw fails refl

-- a front that is too large already
pub too_large : (base : ℕ) (digits : List ℕ) (i : ℕ) → 1 ≤ base → 2 ^ 63 ≤ digits_value base (take i digits) → numeral_value base digits ≡ None
unfolding numeral_value
too_large base digits i h large =
    let more = front_grows base h digits i in
    let no : nat_lt (digits_value base digits) (2 ^ 63) ≡ false = grind (arith, nat_tests, more, large) in
    rw no (grind (arith, nat_tests))

-- digits of the base below the limit have a value
pub given : (base : ℕ) (digits : List ℕ) → list_all (λ byte. nat_lt (digit_value byte) base) digits ≡ true → digits_value base digits < 2 ^ 63
    → numeral_value base digits ≡ Some (digits_value base digits)
unfolding numeral_value
given base digits all small =
    let b : nat_lt (digits_value base digits) (2 ^ 63) ≡ true = grind (arith, nat_tests) in
    rw all (rw b refl)
