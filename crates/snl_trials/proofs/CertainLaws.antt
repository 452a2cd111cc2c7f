-- A law of searches that found nothing.
use Rattle.std.proofs.Common.{◌≡◌, ℕ, Bool, true, false, Option, None, Some, refl, sym}
use Rattle.std.proofs.lemmas.Option.{none-some}
use Rattle.std.specs.Option.{IfSome, IsSomeAnd}
use Rattle.snl_search.specs.declared.certificate.Searched.{Searched}
use Rattle.snl_trials.specs.Certain.{Reaches}

-- a bound of as many lines as were wished, or none
reaches-of : (is_ever : Bool) (lines : ℕ) (bound : Option ℕ) → IfSome bound (λ (b : ℕ). b ≡ lines) → (is_ever ≡ true → bound ≡ None) → Reaches is_ever lines bound
reaches-of is_ever lines None held so = tt
reaches-of false lines (Some bound) held so = (refl, held)
reaches-of true lines (Some bound) held so = absurd (none-some bound (sym (so refl)))

-- what is shown where there is anything is shown of that
pub shown-there : (P : Searched → Type 0) (none : Option Searched) (lines : ℕ) → IfSome none P →
    IsSomeAnd none (λ (s : Searched). IfSome s.bound (λ (b : ℕ). b ≡ lines)) → IsSomeAnd none P
shown-there P None lines shown held = held
shown-there P (Some s) lines shown held = shown

-- and reaches as far as is wanted
pub reaches-there : (none : Option Searched) (is_ever : Bool) (lines : ℕ) →
    IsSomeAnd none (λ (s : Searched). IfSome s.bound (λ (b : ℕ). b ≡ lines)) → (is_ever ≡ true → IsSomeAnd none (λ (s : Searched). s.bound ≡ None)) →
    IsSomeAnd none (λ (s : Searched). Reaches is_ever lines s.bound)
reaches-there None is_ever lines held so = held
reaches-there (Some s) is_ever lines held so = reaches-of is_ever lines s.bound held so
