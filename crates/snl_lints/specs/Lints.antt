-- The lints: what it is for a program to be remarked on, each beside its name.
use Rattle.std.specs.Prelude.{ℕ, ℤ, Bool, true, false, not, ◌&&◌, ◌||◌, List, [], ◌∷◌, ◌++◌, Option, None, Some}
use Rattle.std.specs.List.{flat_map}
use Rattle.snl_text.specs.declared.tokens.Pos.{Pos}
use Rattle.snl_text.specs.declared.tokens.Token.{Token}
use Rattle.snl_syntax.specs.Programs.{ProgramTree}
use Rattle.snl_names.specs.declared.builtins.Query.{Query}
use Rattle.snl_names.specs.declared.builtins.Query.TheVariants.{PvPutComplete}
use Rattle.snl_names.specs.Formats.{unquoted}
use Rattle.snl_names.specs.Uses.{declared_of}
use Rattle.snl_channels.specs.Links.{spelled}
use Rattle.snl_channels.specs.Macros.{macros_of, replaced}
use Rattle.snl_lints.specs.declared.touches.ValueDomain.{ValueDomain}
use Rattle.snl_lints.specs.declared.touches.Touch.{Touch}
use Rattle.snl_lints.specs.declared.touches.Touch.TheVariants.{Declares, Monitors, Asks, Equals, Comma, Returns, Names, Faults, Lacks, Stores, Picks}
use Rattle.snl_lints.specs.declared.facts.Fact.{Fact}
use Rattle.snl_lints.specs.declared.facts.Fact.TheVariants as fact
use Rattle.snl_lints.specs.declared.remarks.Lint.{Lint}
use Rattle.snl_lints.specs.declared.remarks.Lint.TheVariants as lint
use Rattle.snl_lints.specs.declared.remarks.Remark.{Remark}
use Rattle.snl_lints.specs.declared.doers.Doers.{Doers}
use Rattle.snl_lints.specs.Channels.{Given, given_by, has_undefined, is_open, is_unspoken}
use Rattle.snl_lints.specs.Constants.{lacks_number, misses_element}
use Rattle.snl_lints.specs.Doers.{doers_of, are_apart}
use Rattle.snl_lints.specs.Facts.{is_done, held_in}
use Rattle.snl_lints.specs.Touches.{touches}

-- A remark at a token, where a test holds.
abbrev pub when : Bool → Lint → Token → List Remark
when true l x = record { lint = l; token = x } ∷ []
when false l x = []

-- ---- what is known of a variable, by what is done with it

-- What is done with variables anywhere, which state sets set and read them, and what they can hold.
pub record Known : Type 0 where
  pub done : Fact → ℕ → Bool
  pub setters : ℕ → Doers
  pub readers : ℕ → Doers
  pub held : ℕ → Option ValueDomain

-- By these touches of a program.
abbrev pub known_by : (ℕ → Option Pos) → ProgramTree → List Touch → Known
known_by declared p all = record {
  done = is_done declared all;
  setters = doers_of declared p fact.Set;
  readers = doers_of declared p fact.Read;
  held = held_in all;
}

-- `shared`: one state set sets it and another one reads it, each in a copy of its own, and no `monitor` brings both one value.
abbrev pub is_shared : Known → ℕ → Bool
is_shared known v = are_apart (known.setters v) (known.readers v) && not (known.done fact.Monitored v)

-- Something brings it the value of its channel.
abbrev pub is_refreshed : (Fact → ℕ → Bool) → ℕ → Bool
is_refreshed done v = done fact.Monitored v || done fact.Got v

-- `stale`: it is assigned to a channel and read, and nothing gives it a value.
abbrev pub is_stale : (Fact → ℕ → Bool) → ℕ → Bool
is_stale done v = done fact.Assigned v && done fact.Read v && not (done fact.Set v) && not (is_refreshed done v)

-- `unput`: it is assigned to a channel and set, and what it is set to goes nowhere.
abbrev pub is_unput : (Fact → ℕ → Bool) → ℕ → Bool
is_unput done v = done fact.Assigned v && done fact.Set v && not (done fact.Put v) && not (is_refreshed done v)

-- `unread`: what a `monitor` brings is never read, and sets no event flag.
abbrev pub is_unread : (Fact → ℕ → Bool) → ℕ → Bool
is_unread done v = not (done fact.Read v) && not (done fact.Flagged v)

-- `answered`: no put of it has the word `ASYNC`, so that each put is answered before the next step.
abbrev pub is_answered : (Fact → ℕ → Bool) → ℕ → Bool
is_answered done v = not (done fact.PutAsync v)

-- The same of the variable that a name means, if it means one.
abbrev pub of_meant : (ℕ → Bool) → Option Pos → Bool
of_meant test None = false
of_meant test (Some place) = test place.offset

-- ---- remarks

-- At a declared name: `shared`, `stale`, `unput`.
abbrev pub at_declared : Known → Token → List Remark
at_declared known x =
    when (is_shared known x.pos.offset) lint.Shared x ++ when (is_stale known.done x.pos.offset) lint.Stale x ++ when (is_unput known.done x.pos.offset) lint.Unput x

-- At the name in a `monitor`: `unread`.
abbrev pub at_monitored : (ℕ → Option Pos) → (Fact → ℕ → Bool) → Token → List Remark
at_monitored declared done x = when (of_meant (is_unread done) (declared x.pos.offset)) lint.Unread x

-- At the name in a call: `answered`.
abbrev pub at_asked : (ℕ → Option Pos) → (Fact → ℕ → Bool) → Query → Token → List Remark
at_asked declared done PvPutComplete x = when (of_meant (is_answered done) (declared x.pos.offset)) lint.Answered x
at_asked declared done query x = []

-- At a name that is given a constant: `constant`, where the type of its variable lacks that number.
abbrev pub at_stored : (ℕ → Option Pos) → (ℕ → Option ValueDomain) → Token → ℤ → List Remark
at_stored declared held x z = when (of_meant (λ v. lacks_number (held v) z) (declared x.pos.offset)) lint.Unfitting x

-- At a name with a constant subscript: `constant`, where its variable has no such element.
abbrev pub at_picked : (ℕ → Option Pos) → (ℕ → Option ValueDomain) → Token → ℤ → List Remark
at_picked declared held x z = when (of_meant (λ v. misses_element (held v) z) (declared x.pos.offset)) lint.Missing x

-- At the name of a channel: `macro`, where a macro of it has no definition or a brace is open; `unspoken`, where no line of a trace can tell
-- what it is after macros.
abbrev pub at_channel : Given → Token → List Remark
at_channel given t =
    when (has_undefined given.defined None (unquoted t.text.now)) lint.Undefined t ++ when (is_open false (unquoted t.text.now)) lint.Unclosed t
    ++ when (is_unspoken (replaced given.value None (unquoted t.text.now))) lint.Unspoken t

-- What is remarked where something is done with a variable.
abbrev pub at_variable : (ℕ → Option Pos) → Known → Touch → List Remark
at_variable declared known (Declares x) = at_declared known x
at_variable declared known (Monitors x) = at_monitored declared known.done x
at_variable declared known (Asks query x) = at_asked declared known.done query x
at_variable declared known (Stores x z) = at_stored declared known.held x z
at_variable declared known (Picks x z) = at_picked declared known.held x z
at_variable declared known t = []

-- What is remarked at one touch: beside these `equals`, `comma`, `itself`, and `constant` at an operator and at a first value, which the touch
-- tells by itself.
abbrev pub remarks_at : (ℕ → Option Pos) → Given → Known → Touch → List Remark
remarks_at declared given known (Names t) = at_channel given t
remarks_at declared given known (Equals op) = when true lint.Equals op
remarks_at declared given known (Comma op) = when true lint.Comma op
remarks_at declared given known (Returns x) = when true lint.Itself x
remarks_at declared given known (Faults op) = when true lint.Faulting op
remarks_at declared given known (Lacks x) = when true lint.Unfitting x
remarks_at declared given known t = at_variable declared known t

-- What is remarked at these touches of a program, which are all that there are.
abbrev pub remarks_by : (ℕ → Option Pos) → Given → ProgramTree → List Touch → List Remark
remarks_by declared given p all = flat_map (remarks_at declared given (known_by declared p all)) all

-- What the macros of a program's text and of a call give.
abbrev pub given_of : ProgramTree → List ℕ → Given
given_of p of_call = given_by (macros_of (spelled p.macros) of_call)

-- All remarks on a program, with the macros of a call, in the order of the source.
abbrev pub remarks_of : ProgramTree → List ℕ → List Remark
remarks_of p of_call = remarks_by (declared_of p) (given_of p of_call) p (touches (declared_of p) p)
