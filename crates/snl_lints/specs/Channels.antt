-- The names of channels: the macros in a name as it is spelled, and what no line of a trace can tell.
use Rattle.std.specs.Prelude.{ℕ, Bool, true, false, not, ◌&&◌, ◌||◌, ◌==◌, nat_le, List, [], ◌∷◌, ◌++◌, length, Option, None, Some, is_some, if◌then◌else◌}
use Rattle.std.specs.List.{list_all, slice_range}
use Rattle.snl_channels.specs.Macros.{Macro, last_value, macro_value}

-- ---- macros in a name

-- What the macros of a program and of a call give: which names have a definition, and what stands for a name.
pub record Given : Type 0 where
  pub defined : List ℕ → Bool
  pub value : List ℕ → List ℕ

-- By these definitions.
abbrev pub given_by : List Macro → Given
given_by macros = record { defined = λ name. is_some (last_value name macros); value = macro_value macros }

-- What stands since an open `{` (123), behind one more byte: a `}` (125) ends it. Where none is open, a `{` begins.
abbrev pub kept_after : Option (List ℕ) → ℕ → Option (List ℕ)
kept_after None b = if b == 123 then Some [] else None
kept_after (Some kept) b = if b == 125 then None else Some (kept ++ b ∷ [])

-- A byte ends the name of a macro that has no definition.
abbrev pub ends_undefined : (List ℕ → Bool) → Option (List ℕ) → ℕ → Bool
ends_undefined defined None b = false
ends_undefined defined (Some kept) b = b == 125 && not (defined kept)

-- Some macro in a name has no definition: from each `{` up to the next `}` stands the name of one.
abbrev pub has_undefined : (List ℕ → Bool) → Option (List ℕ) → List ℕ → Bool
has_undefined defined kept [] = false
has_undefined defined kept (b ∷ more) = ends_undefined defined kept b || has_undefined defined (kept_after kept b) more

-- A `{` is open behind one more byte.
abbrev pub opens_after : Bool → ℕ → Bool
opens_after false b = b == 123
opens_after true b = not (b == 125)

-- A name has a `{` without a `}` behind it.
abbrev pub is_open : Bool → List ℕ → Bool
is_open opened [] = opened
is_open opened (b ∷ more) = is_open (opens_after opened b) more

-- What stands since an open `{` up to a place, by the place where it begins.
abbrev pub kept_at : List ℕ → ℕ → Option ℕ → Option (List ℕ)
kept_at name at None = None
kept_at name at (Some from) = Some (slice_range name from at)

-- ---- names in a trace

-- A printable ASCII character but the space: what a field of a line can hold.
abbrev pub is_mark : ℕ → Bool
is_mark b = nat_le 33 b && nat_le b 126

-- A name that a line can tell: it is a field of such, and the shortest line, `0 up NAME`, has at most 32,768 bytes with it.
abbrev pub is_told : List ℕ → Bool
is_told name = list_all is_mark name && nat_le (length name) 32763

-- A channel that no line can name. Where nothing is left of a name there is no channel.
abbrev pub is_unspoken : List ℕ → Bool
is_unspoken name = not (is_told name)
