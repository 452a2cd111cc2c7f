-- Which declaration the name at a place of a program means.
use Rattle.std.specs.Prelude.{ℕ, ◌==◌, List, [], ◌∷◌, Option, None, Some, if◌then◌else◌}
use Rattle.snl_text.specs.declared.tokens.Pos.{Pos}
use Rattle.snl_text.specs.declared.tokens.Token.{Token}
use Rattle.snl_syntax.specs.Programs.{ProgramTree}
use Rattle.snl_names.specs.declared.sites.Meaning.{Meaning}
use Rattle.snl_names.specs.declared.sites.Meaning.TheVariants.{Variable, Flag}
use Rattle.snl_names.specs.declared.sites.Site.{Site}
use Rattle.snl_names.specs.declared.sites.Site.TheVariants.{Use, Defined}
use Rattle.snl_names.specs.Programs.{sites}

-- The place of the declaration that a name means, of a variable or an event flag.
abbrev pub declared_pos : Meaning → Option Pos
declared_pos (Variable d size) = Some d
declared_pos (Flag d) = Some d
declared_pos m = None

-- The name that a site uses, with what it means there.
abbrev pub use_at : Site → Option (Token × Meaning)
use_at (Use p t m sub) = Some (t, m)
use_at (Defined sort word t m sub wrong part) = Some (t, m)
use_at _ = None

-- The place of what is used, if the use is at this offset; else that of a later one.
abbrev pub declared_by : ℕ → Option (Token × Meaning) → Option Pos → Option Pos
declared_by offset None later = later
declared_by offset (Some u) later = if u.0.pos.offset == offset then declared_pos u.1 else later

-- What the first of some sites says that uses a name at this offset.
abbrev pub declared_in : ℕ → List Site → Option Pos
declared_in offset [] = None
declared_in offset (s ∷ rest) = declared_by offset (use_at s) (declared_in offset rest)

-- The place of the declaration that the use at an offset means; none where no name is used, or a predefined one or one
-- that is not declared.
abbrev pub declared_of : ProgramTree → ℕ → Option Pos
declared_of p offset = declared_in offset (sites p)
