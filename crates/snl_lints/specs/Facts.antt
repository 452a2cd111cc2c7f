-- What is done anywhere in a program with a variable, which goes by the offset of its declaration.
use Rattle.std.specs.Prelude.{ℕ, Bool, true, false, ◌==◌, List, [], ◌∷◌, Option, None, Some, if◌then◌else◌}
use Rattle.std.specs.List.{list_any}
use Rattle.std.specs.Option.{option_or}
use Rattle.snl_text.specs.declared.tokens.Pos.{Pos}
use Rattle.snl_text.specs.declared.tokens.Token.{Token}
use Rattle.snl_names.specs.declared.builtins.Query.TheVariants.{PvGet, PvGetQ}
use Rattle.snl_lints.specs.declared.touches.ValueDomain.{ValueDomain}
use Rattle.snl_lints.specs.declared.touches.Touch.{Touch}
use Rattle.snl_lints.specs.declared.touches.Touch.TheVariants.{Assigns, Monitors, Flags, Reads, Sets, Puts, Asks, Holds}
use Rattle.snl_lints.specs.declared.facts.Fact.{Fact}
use Rattle.snl_lints.specs.declared.facts.Fact.TheVariants as fact

-- The name of what a get asks of.
abbrev pub name_of_get : Touch → Option Token
name_of_get (Asks PvGet x) = Some x
name_of_get (Asks PvGetQ x) = Some x
name_of_get t = None

-- The name by which this is done.
abbrev pub name_by : Fact → Touch → Option Token
name_by fact.Assigned (Assigns x) = Some x
name_by fact.Monitored (Monitors x) = Some x
name_by fact.Flagged (Flags x) = Some x
name_by fact.Read (Reads x) = Some x
name_by fact.Set (Sets x) = Some x
name_by fact.Put (Puts x async) = Some x
name_by fact.PutAsync (Puts x true) = Some x
name_by fact.Got t = name_of_get t
name_by f t = None

-- There is a declaration, and it is this variable's.
abbrev pub is_at : ℕ → Option Pos → Bool
is_at variable None = false
is_at variable (Some place) = place.offset == variable

-- There is a name, and it means this variable, where this says which declarations names mean by their offsets.
abbrev pub means : (ℕ → Option Pos) → ℕ → Option Token → Bool
means declared variable None = false
means declared variable (Some x) = is_at variable (declared x.pos.offset)

-- This is done with the variable.
abbrev pub does : (ℕ → Option Pos) → Fact → ℕ → Touch → Bool
does declared f variable t = means declared variable (name_by f t)

-- It is done somewhere.
abbrev pub is_done : (ℕ → Option Pos) → List Touch → Fact → ℕ → Bool
is_done declared all f variable = list_any (does declared f variable) all

-- What is told of a variable that it can hold.
abbrev pub held_by : Touch → ℕ → Option ValueDomain
held_by (Holds x h) variable = if x.pos.offset == variable then Some h else None
held_by t variable = None

-- What the last of these tells that speaks of the variable.
abbrev pub held_in : List Touch → ℕ → Option ValueDomain
held_in [] variable = None
held_in (t ∷ rest) variable = option_or (held_in rest variable) (held_by t variable)
