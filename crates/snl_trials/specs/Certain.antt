-- How far it is certain that nothing is to be found.
use Rattle.std.specs.Prelude.{◌≡◌, ℕ, Bool, false, Option, None, Some}

-- For traces of any number of lines; or for those of as many as were wished, where no more is wanted.
abbrev pub Reaches : (is_ever : Bool) → (lines : ℕ) → (bound : Option ℕ) → Type 0
Reaches is_ever lines None = Unit {0}
Reaches is_ever lines (Some bound) = (is_ever ≡ false) × (bound ≡ lines)
