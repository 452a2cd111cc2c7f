-- Laws of decimal numbers in units of a trace.
use Rattle.std.proofs.Common.{◌≡◌, ◌≢◌, ◌≤◌, ◌/◌, ◌%◌, ◌<◌, ◌+◌, ◌-◌, ◌*◌, ◌^◌, ℕ, zero, suc, List, [], ◌∷◌, ◌++◌, length, drop, get_or, refl, sym, ap, ◌∙◌, subst, arith, Option, None, Some, IfNone}
use Rattle.std.proofs.Math.Nat.{pow-suc, mod-eq-sub-div-mul, div-mul-le_self, mul-mod_left}
use Rattle.std.proofs.Math.Seq.{drop-cons}
use Rattle.snl_units.specs.Exact.{number_behind}

-- digits make a number no smaller
pub behind-grows : (number : ℕ) (xs : List ℕ) → number ≤ number_behind number xs
behind-grows number [] = omega arith
behind-grows number (x ∷ xs) = omega (arith, behind-grows (number * 10 + (x - 48)) xs)

-- so do zeros
pub zeros-grow : (number zeros : ℕ) → number ≤ number * 10 ^ zeros
zeros-grow number zero = omega arith
zeros-grow number (suc zeros) = rw (pow-suc) (omega (arith, zeros-grow number zeros))

-- a digit that makes a number too large makes that of all digits too large
pub digits-none : (most whole number i : ℕ) (digits : List ℕ) → i < length digits → number_behind number (drop i digits) ≡ whole → most ≤ number * 10 + (get_or digits i 0 - 48) → most ≤ whole
digits-none most whole number i digits within is large =
    let more = number * 10 + (get_or digits i 0 - 48) in
    let same : whole ≡ number_behind more (drop (suc i) digits) = sym is ∙ ap (number_behind number) (drop-cons digits i 0 within) in
    omega (arith, same, behind-grows more (drop (suc i) digits))

-- a zero less is left behind a number with a zero more
pub zero-more : (number zeros i : ℕ) → i < zeros → number * 10 * 10 ^ (zeros - (i + 1)) ≡ number * 10 ^ (zeros - i)
zero-more number zeros i within =
    let next : zeros - i ≡ suc (zeros - (i + 1)) = omega (arith, within) in
    rw (next, pow-suc) (omega arith)

-- a zero that makes a number too large
pub zeros-none : (most whole number zeros i : ℕ) → i < zeros → number * 10 ^ (zeros - i) ≡ whole → most ≤ number * 10 → most ≤ whole
zeros-none most whole number zeros i within is large = omega (arith, sym is ∙ sym (zero-more number zeros i within), zeros-grow (number * 10) (zeros - (i + 1)))

-- no zero is left
pub zeros-done : (whole number zeros i : ℕ) → zeros ≤ i → number * 10 ^ (zeros - i) ≡ whole → number ≡ whole
zeros-done whole number zeros i over is = let none : zeros - i ≡ 0 = omega (arith, over) in omega (arith, rw none at is)

-- where there is no answer, what is said of that holds
pub if_none : {A : Type 0} (r : Option A) (P : Type 0) → P → IfNone r P
if_none None P holds = holds
if_none (Some x) P holds = tt

-- what leaves nothing is that many times the other
pub quotient-whole : (over under : ℕ) → over % under ≡ 0 → over / under * under ≡ over
quotient-whole over under none = omega (arith, mod-eq-sub-div-mul over under, div-mul-le_self over under, none)

-- what leaves something is no number of times the other
pub quotient-none : (over under n : ℕ) → (over % under ≡ 0 → ⊥) → n * under ≢ over
quotient-none over under n left is = left (sym (ap (λ o. o % under) is) ∙ mul-mod_left n under)

-- nothing but 0 is some number of times a larger one
pub quotient-small : (over under n : ℕ) → 0 < over → over < under → n * under ≢ over
quotient-small over under zero some less is = absurd (omega (arith, some, is))
quotient-small over under (suc n) some less is = absurd (omega (arith, less, is))
