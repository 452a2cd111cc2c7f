use Rattle.std.proofs.Common.{◌≡◌, ℕ, Option, Some, refl, arith}
use Rattle.snl_text.specs.Numbers.{decimal_value, value_in, numeral_value, whole_value, without_suffix}
use Rattle.snl_text.specs.Signs.{sign_at}
use Rattle.snl_text.proofs.laws.examples_of_texts.Goals as goal

some_nat : {a b : ℕ} → ◌≡◌ {A = Option ℕ} (Some a) (Some b) → a ≡ b
some_nat e = cc

pub returns : goal.returns
unfolding whole_value value_in numeral_value without_suffix decimal_value sign_at
returns c = (
  refl,
  (refl, refl),
  (refl, refl),
  refl,
  refl,
  refl,
  refl,
  omega arith,
  λ h. absurd (cc h.1),
  λ h. absurd (cc h),
  λ h. absurd (omega (arith, some_nat h)),
)
