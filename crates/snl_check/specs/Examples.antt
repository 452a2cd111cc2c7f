-- Examples: which name the table answers for, and which options make a program wait, computed.
use Rattle.std.specs.Prelude.{◌≡◌, ℕ, true, false, List, [], ◌∷◌, None, Some}
use Rattle.snl_text.specs.declared.kinds.Kind.TheVariants.{Name}
use Rattle.snl_text.specs.declared.tokens.Pos.{Pos}
use Rattle.snl_names.specs.declared.sites.Meaning.{Meaning}
use Rattle.snl_names.specs.declared.sites.Meaning.TheVariants.{Variable, Flag, Number, Nothing}
use Rattle.snl_names.specs.declared.sites.Purpose.TheVariants.{Read}
use Rattle.snl_names.specs.declared.sites.Site.{Site}
use Rattle.snl_names.specs.declared.sites.Site.TheVariants.{Use}
use Rattle.snl_names.specs.declared.sites.Size.TheVariants.{Scalar}
use Rattle.snl_names.specs.Options.{no_options, after_option}
use Rattle.snl_names.specs.Uses.{declared_in}
use Rattle.snl_names.specs.UseTables.{or_later}
use Rattle.snl_check.specs.Waits.{waits}

-- A place at an offset.
abbrev at : ℕ → Pos
at offset = record { offset = offset; file = 0; line = 1 }

-- A name that is read at an offset, with what it means.
abbrev used : ℕ → Meaning → Site
used offset meaning = Use Read (record { kind = Name; text = record { ref_ptr = (0, 0); now = 120 ∷ [] }; pos = at offset }) meaning false

-- At offset 40 a variable, at 50 an event flag, at 60 a predefined name, at 70 one that is not declared.
abbrev uses : List Site
uses = used 40 (Variable (at 5) Scalar) ∷ used 50 (Flag (at 6)) ∷ used 60 Number ∷ used 70 Nothing ∷ []

-- What is answered at these offsets, and at one where no name is used.
pub record UseExamples : Type 0 where
  pub variable : declared_in 40 uses ≡ Some (at 5)
  pub flag : declared_in 50 uses ≡ Some (at 6)
  pub predefined : declared_in 60 uses ≡ None
  pub undeclared : declared_in 70 uses ≡ None
  pub elsewhere : declared_in 41 uses ≡ None
  -- Of two names at one offset the first decides, also where it means nothing.
  pub first : declared_in 70 (used 70 Nothing ∷ used 70 (Flag (at 6)) ∷ []) ≡ None
  pub noted : or_later (Some None) (Some (at 5)) ≡ None

-- `c` is 99.
pub record WaitExamples : Type 0 where
  pub plain : waits no_options ≡ true
  pub plus : waits (after_option true (99 ∷ []) no_options) ≡ true
  pub minus : waits (after_option false (99 ∷ []) no_options) ≡ false
  pub last : waits (after_option true (99 ∷ []) (after_option false (99 ∷ []) no_options)) ≡ true
