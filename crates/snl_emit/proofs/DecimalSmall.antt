-- A decimal constant, in thousandths, is a number of 64 bits.
use Rattle.std.proofs.Common.{◌≡◌, ℕ, ◌+◌, ◌-◌, ◌<◌, ◌≤◌, ◌^◌, Bool, true, false, List, [], ◌∷◌, ◌++◌, refl, arith, None, Some, Option, if◌then◌else◌, length}
use Rattle.std.specs.Prelude.{nat_le, nat_lt, take, drop, codes, IfSome, ◌&&◌, slice_index}
use Rattle.std.specs.List.{list_all, prefix_len}
use Rattle.std.proofs.lemmas.Bool.Decides.{nat_tests}
use Rattle.snl_text.specs.Bytes.{is_byte, is_digit, is_from}
use Rattle.snl_text.specs.declared.numbers.DecimalValue.{DecimalValue}
use Rattle.snl_text.specs.Numbers.{digit_value, digits_value, numeral_value, decimal_of, decimal_value}

-- a number of 63 bits
abbrev IsSmall : DecimalValue → Type 0
IsSmall d = d.thousandths < 2 ^ 63

-- one of two numbers that are small enough
either-small : (b : Bool) (n m k : ℕ) → (b ≡ true → n ≤ k) → m ≤ k → (if b then n else m) ≤ k
either-small true n m k f s = f refl
either-small false n m k f s = s

-- what a byte is worth as a digit
digit-small : (b : ℕ) → digit_value b ≤ 16
digit-small b =
    either-small (is_from (codes "09") b) (b - 48) _ 16 (λ e. grind (arith, nat_tests, e))
    (either-small (is_from (codes "af") b) (b - 87) _ 16 (λ e. grind (arith, nat_tests, e))
    (either-small (is_from (codes "AF") b) (b - 55) 16 16 (λ e. grind (arith, nat_tests, e)) (omega arith)))

-- three digits
three-small : (l : List ℕ) → digits_value 10 (take 3 l) < 2000
three-small [] = omega arith
three-small (a ∷ []) = omega (arith, digit-small a)
three-small (a ∷ b ∷ []) = omega (arith, digit-small a, digit-small b)
three-small (a ∷ b ∷ c ∷ l) = omega (arith, digit-small a, digit-small b, digit-small c)

-- where a test passes
tested-small : (b : Bool) (o : Option DecimalValue) → (b ≡ true → IfSome o IsSmall) → IfSome (if b then o else None) IsSmall
tested-small true o f = f refl
tested-small false o f = tt

-- a whole part and the digits after the point
parts-small : (whole : Option ℕ) (fraction : List ℕ) → IfSome (decimal_of whole fraction) IsSmall
parts-small None fraction = tt
parts-small (Some n) fraction =
    tested-small (nat_le n 1000000000000) _ (λ e. (let few = three-small (fraction ++ codes "000") in grind (arith, nat_tests, e, few)))

-- a decimal constant
pub decimal-small : (text : List ℕ) → IfSome (decimal_value text) IsSmall
unfolding decimal_value
decimal-small text =
    let point = prefix_len is_digit text in
    tested-small (nat_lt point (length text) && is_byte (codes ".") (slice_index text point) && list_all is_digit (drop (point + 1) text) && nat_lt 1 (length text))
    (decimal_of (numeral_value 10 (take point text)) (drop (point + 1) text)) (λ e. parts-small (numeral_value 10 (take point text)) (drop (point + 1) text))
