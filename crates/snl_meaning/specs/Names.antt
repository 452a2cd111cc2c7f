-- What the names in a piece of code mean, by their declarations.
use Rattle.std.specs.Prelude.{ℕ, true, false, suc, ◌+◌, ◌-◌, ◌^◌, min, ℤ, pos, Bool, ◌==◌, bytes_eq, length, List, [], ◌∷◌, Option, None, Some, slice_index_or, if◌then◌else◌}
use Rattle.std.specs.List.{flat_map}
use Rattle.snl_text.specs.declared.tokens.Pos.{Pos}
use Rattle.snl_text.specs.declared.tokens.Token.{Token}
use Rattle.snl_names.specs.declared.sites.Site.{Site}
use Rattle.snl_names.specs.declared.sites.Site.TheVariants.{Declaration, Format}
use Rattle.snl_names.specs.Constants.{predefined}
use Rattle.snl_names.specs.Numbered.{number_of}
use Rattle.snl_names.specs.Scopes.{elements}
use Rattle.snl_names.specs.Uses.{declared_in}
use Rattle.snl_names.specs.Variables.{CopyVariable}
use Rattle.snl_meaning.specs.declared.instrs.Variable.{Variable}
use Rattle.snl_meaning.specs.declared.names.Placed.{Placed}
pub use Rattle.snl_meaning.specs.declared.names.Sense.{Sense}
pub use Rattle.snl_meaning.specs.declared.names.Sense.TheVariants.{Varies, Stands}

-- Where code stands: in a piece of a state set, or in the body of a function, whose values fit a type. A function without a value gives 0.
pub data Within : Type 0 where
  Piece : Within
  Body : (least greatest : ℤ) → Within

-- What code knows of a function: its name, and how many operands its body needs at once.
pub record Outline : Type 0 where
  pub name : List ℕ
  pub depth : ℕ

-- What is known where a piece of code stands.
pub record Here : Type 0 where
  -- the names of the states of its state set
  pub states : List Token
  -- what the names of the program mean, each at its place
  pub sites : List Site
  -- the variables that may be named there, by their declarations: those of the copy; in a function those of the program's
  -- definitions, which stand first in each copy, and those of functions
  pub variables : List Placed
  -- whether it is the body of a function
  pub within : Within
  -- the names of the functions that may be called there, in the order of the source: no meaning asks for them, and code does
  pub functions : List Token

-- A place so many words after another. No program that the rules accept has as many words as 2^64 - 1.
abbrev pub place_after : ℕ → ℕ → ℕ
place_after at n = min (at + n) (2 ^ 64 - 1)

-- A variable whose words begin at a place, among those that all state sets share or among those of a copy.
abbrev pub held_from : (is_shared : Bool) → ℕ → CopyVariable → Variable
held_from is_shared at v = record { place = at; size = elements v.size; least = v.range.0; greatest = v.range.1; is_shared = is_shared }

-- One of a copy,
abbrev pub variable_from : ℕ → CopyVariable → Variable
variable_from at v = held_from false at v

-- and one of a function.
abbrev pub shared_from : ℕ → CopyVariable → Variable
shared_from at v = held_from true at v

-- Where the words of the next variable begin.
abbrev pub behind : ℕ → CopyVariable → ℕ
behind at v = place_after at (elements v.size)

-- Variables whose words stand one after another from a place on, each with the offset of its declaration.
abbrev pub placed_by : (is_shared : Bool) → ℕ → List CopyVariable → List Placed
placed_by is_shared at [] = []
placed_by is_shared at (v ∷ vs) =
    record { offset = v.name.pos.offset; variable = held_from is_shared at v } ∷ placed_by is_shared (behind at v) vs

-- Those of a copy,
abbrev pub placed_from : ℕ → List CopyVariable → List Placed
placed_from at vs = placed_by false at vs

-- and those of functions.
abbrev pub placed_shared : ℕ → List CopyVariable → List Placed
placed_shared at vs = placed_by true at vs

-- How many words some variables have.
abbrev pub words_of : List CopyVariable → ℕ
words_of [] = 0
words_of (v ∷ vs) = elements v.size + words_of vs

-- ---- variables

-- The variable that is declared at an offset, among some.
abbrev pub variable_in : List Placed → ℕ → Option Variable
variable_in [] offset = None
variable_in (v ∷ vs) offset = if v.offset == offset then Some v.variable else variable_in vs offset

-- The same among those that may be named at a place.
abbrev pub variable_at : Here → ℕ → Option Variable
variable_at h offset = variable_in h.variables offset

-- The same of a place, if there is one.
abbrev pub variable_by : Here → Option Pos → Option Variable
variable_by h None = None
variable_by h (Some declared) = variable_at h declared.offset

-- ---- names in expressions

-- A number, or 0.
abbrev pub or_zero : Option ℤ → ℤ
or_zero None = pos 0
or_zero (Some z) = z

-- A variable where there is one, and otherwise a number.
abbrev pub sense_by : Option Variable → Option ℤ → Sense
sense_by (Some v) number = Varies v
sense_by None number = Stands (or_zero number)

-- The variable that its declaration makes, or else the number that its text is predefined to be. A name that is
-- neither stands for 0; the rules refuse it.
abbrev pub sense_of : Here → Token → Sense
sense_of h x = sense_by (variable_by h (declared_in x.pos.offset h.sites)) (predefined x.text.now)

-- ---- event flags

-- The number of the first of some declarations that stands at an offset; that after the last where none does.
abbrev pub number_at : List ℕ → ℕ → ℕ
number_at [] offset = 0
number_at (d ∷ ds) offset = if d == offset then 0 else suc (number_at ds offset)

-- The same of a declaration that may be missing.
abbrev pub number_by : List ℕ → Option Pos → ℕ
number_by ds None = length ds
number_by ds (Some declared) = number_at ds declared.offset

-- Where a site declares an event flag, if it does.
abbrev pub flag_at : Site → List ℕ
flag_at (Declaration x true later words) = x.pos.offset ∷ []
flag_at _ = []

-- The event flags of a program, by their declarations, in the order of the source.
abbrev pub flags_of : List Site → List ℕ
flags_of sites = flat_map flag_at sites

-- The number of an event flag, by the use of its name.
abbrev pub flag_number : Here → Token → ℕ
flag_number h x = number_by (flags_of h.sites) (declared_in x.pos.offset h.sites)

-- ---- states

-- A number, or that of the first.
abbrev pub or_first : Option ℕ → ℕ
or_first None = 0
or_first (Some n) = n

-- The number of the state that is named, in its state set. An unknown name counts as the first state; the rules
-- refuse it.
abbrev pub state_number : Here → Token → ℕ
state_number h x = or_first (number_of h.states x.text.now)

-- ---- functions

-- The function of a name, the first where there are several.
abbrev pub outline_named : List Outline → List ℕ → Option Outline
outline_named [] name = None
outline_named (o ∷ os) name = if bytes_eq o.name name then Some o else outline_named os name

-- The number of the function that is called, among those of the program, if it is one that may be called there.
abbrev pub function_number : Here → Token → Option ℕ
function_number h x = number_of h.functions x.text.now

-- ---- formats

-- The string of a site, if it has one.
abbrev pub format_at : Site → List (List ℕ)
format_at (Format t is_good) = t.text.now ∷ []
format_at _ = []

-- The strings of the program, as spelled, in the order of the source.
abbrev pub formats_of : Here → List (List ℕ)
formats_of h = flat_map format_at h.sites

-- The number of the first of some texts that is this one; that after the last where none is.
abbrev pub text_number : List (List ℕ) → List ℕ → ℕ
text_number [] text = 0
text_number (t ∷ ts) text = if bytes_eq t text then 0 else suc (text_number ts text)

-- The text of a number; none where there is no such number.
abbrev pub format_text : List (List ℕ) → ℕ → List ℕ
format_text texts n = slice_index_or texts n []

-- The number of a string among those of the program.
abbrev pub format_number : Here → Token → ℕ
format_number h t = text_number (formats_of h) t.text.now
