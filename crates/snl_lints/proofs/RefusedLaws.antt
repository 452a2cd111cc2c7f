-- What an operator refuses to its right faults, and what it does not refuse has a left side with which it gives a number.
use Rattle.std.proofs.Common.{◌≡◌, ℕ, ℤ, pos, negsuc, suc, ◌*◌, ◌^◌, true, false, not, ◌||◌, cond, Result, Ok, Err, refl, sym, ap}
use Rattle.std.specs.Prelude.{nat_lt, int_div, int_rem, neg_ℤ, ◌*ℤ◌}
use Rattle.std.specs.Int.{int_shr}
use Rattle.std.proofs.Math.Nat.{zero-div, zero-mod, zero-mul}
use Rattle.std.proofs.lemmas.Bool.{false≢true}
use Rattle.snl_text.specs.declared.kinds.Kind.TheVariants as kind
use Rattle.snl_arithmetic.specs.declared.arithmetic.ArithmeticFault.{ArithmeticFault}
use Rattle.snl_arithmetic.specs.declared.arithmetic.ArithmeticFault.TheVariants.{Division, Shift}
use Rattle.snl_arithmetic.specs.Arithmetic.{is_zero, in_range, divided, shifted}
use Rattle.snl_lints.specs.Constants.{is_shift_count}
use Rattle.snl_lints.specs.Refused.{is_fault, RefusedSidesFault, OthersDoNot}

-- shifts by so many places
abbrev to_left : ℤ → ℕ → Result ℤ ArithmeticFault
to_left z n = in_range (z *ℤ pos (2 ^ n))

-- the same to the right
abbrev to_right : ℤ → ℕ → Result ℤ ArithmeticFault
to_right z n = Ok (int_shr z n)

-- ---- what is refused

-- a division
divided_faults : (by : ℤ → ℤ → ℤ) (z : ℤ) → (is_zero z || false) ≡ true → (x : ℤ) → is_fault (divided by x z) ≡ true
divided_faults by z h x =
    elim (is_zero z) as (λ b. (b || false) ≡ true → is_fault (cond b (Err Division) (in_range (by x z))) ≡ true)
    [ true ↦ (λ i. refl) | false ↦ (λ i. absurd (false≢true i)) ] h

-- a shift
shifted_faults : (by : ℤ → ℕ → Result ℤ ArithmeticFault) (z : ℤ) → not (is_shift_count z) ≡ true → (x : ℤ) → is_fault (shifted by x z) ≡ true
shifted_faults by (pos n) h x =
    elim (nat_lt n 64) as (λ b. not b ≡ true → is_fault (cond b (by x n) (Err Shift)) ≡ true)
    [ true ↦ (λ i. absurd (false≢true i)) | false ↦ (λ i. refl) ] h
shifted_faults by (negsuc n) h x = refl

-- by the operator
pub refused_faults : RefusedSidesFault
refused_faults kind.Slash z h x = divided_faults int_div z h x
refused_faults kind.Percent z h x = divided_faults int_rem z h x
refused_faults kind.SlashEqual z h x = divided_faults int_div z h x
refused_faults kind.PercentEqual z h x = divided_faults int_rem z h x
refused_faults kind.LessLess z h x = shifted_faults to_left z h x
refused_faults kind.GreaterGreater z h x = shifted_faults to_right z h x
refused_faults kind.LessLessEqual z h x = shifted_faults to_left z h x
refused_faults kind.GreaterGreaterEqual z h x = shifted_faults to_right z h x
refused_faults op z h x = absurd (false≢true h)

-- ---- what is not

-- a division of 0 by another number
divided_gives : (by : ℤ → ℤ → ℤ) (z : ℤ) → by (pos 0) z ≡ pos 0 → (is_zero z || false) ≡ false → is_fault (divided by (pos 0) z) ≡ false
divided_gives by z e h =
    elim (is_zero z) as (λ b. (b || false) ≡ false → is_fault (cond b (Err Division) (in_range (by (pos 0) z))) ≡ false)
    [ true ↦ (λ i. absurd (false≢true (sym i))) | false ↦ (λ i. ap (λ w. is_fault (in_range w)) e) ] h

-- a shift of 0 by 0 to 63 places
shifted_gives : (by : ℤ → ℕ → Result ℤ ArithmeticFault) (z : ℤ) → ((n : ℕ) → is_fault (by (pos 0) n) ≡ false) → not (is_shift_count z) ≡ false
    → is_fault (shifted by (pos 0) z) ≡ false
shifted_gives by (pos n) e h =
    elim (nat_lt n 64) as (λ b. not b ≡ false → is_fault (cond b (by (pos 0) n) (Err Shift)) ≡ false)
    [ true ↦ (λ i. e n) | false ↦ (λ i. absurd (false≢true (sym i))) ] h
shifted_gives by (negsuc n) e h = absurd (false≢true (sym h))

-- 0 divided
quotient_of_zero : (z : ℤ) → int_div (pos 0) z ≡ pos 0
quotient_of_zero (pos n) = ap pos (zero-div n)
quotient_of_zero (negsuc n) = ap (λ k. neg_ℤ (pos k)) (zero-div (suc n))

-- and what is left of it
rest_of_zero : (z : ℤ) → int_rem (pos 0) z ≡ pos 0
rest_of_zero (pos n) = ap pos (zero-mod n)
rest_of_zero (negsuc n) = ap pos (zero-mod (suc n))

-- a product with 0 stays in the range
product_of_zero : (n : ℕ) → is_fault (in_range (pos (0 * 2 ^ n))) ≡ false
product_of_zero n = ap (λ k. is_fault (in_range (pos k))) (zero-mul (2 ^ n))

-- by the operator
pub others_give : OthersDoNot
others_give kind.Slash z s h = divided_gives int_div z (quotient_of_zero z) h
others_give kind.Percent z s h = divided_gives int_rem z (rest_of_zero z) h
others_give kind.SlashEqual z s h = divided_gives int_div z (quotient_of_zero z) h
others_give kind.PercentEqual z s h = divided_gives int_rem z (rest_of_zero z) h
others_give kind.LessLess z s h = shifted_gives to_left z product_of_zero h
others_give kind.GreaterGreater z s h = shifted_gives to_right z (λ n. refl) h
others_give kind.LessLessEqual z s h = shifted_gives to_left z product_of_zero h
others_give kind.GreaterGreaterEqual z s h = shifted_gives to_right z (λ n. refl) h
others_give op z s h = absurd (false≢true s)
