-- Tests that are known to fail or to hold, and tests in a row.
use Rattle.std.proofs.Common.{◌≡◌, ℕ, ◌<◌, Bool, true, false, inl, inr, refl, arith}
use Rattle.std.specs.Prelude.{◌==◌, ◌&&◌}
use Rattle.std.proofs.lemmas.Bool.Decides.{eqb_tells}

-- a test fails with a part that fails
pub no_and : (b : Bool) → (b && false) ≡ false
no_and true = refl
no_and false = refl

-- a part that holds changes no test
pub and_yes : (b : Bool) → (b && true) ≡ b
and_yes true = refl
and_yes false = refl

-- three tests in a row
pub and_and : (a b c : Bool) → (a && (b && c)) ≡ (a && b && c)
and_and true b c = refl
and_and false b c = refl

-- a lesser number is another one
pub lesser : (a b : ℕ) → a < b → (a == b) ≡ false
lesser a b h = elim (eqb_tells a b) [ inl x ↦ absurd (omega (arith, x.1)) | inr x ↦ x.0 ]

-- a greater number is another one
pub greater : (a b : ℕ) → b < a → (a == b) ≡ false
greater a b h = elim (eqb_tells a b) [ inl x ↦ absurd (omega (arith, x.1)) | inr x ↦ x.0 ]
