-- Macros: what a text defines, and a channel's name with their values in it.
use Rattle.std.specs.Prelude.{ℕ, Bool, not, ◌&&◌, ◌==◌, List, [], ◌∷◌, ◌++◌, length, bytes_eq, Option, None, Some, unwrap_or, if◌then◌else◌}
use Rattle.std.specs.List.{list_all, flat_map}
use Rattle.std.specs.Option.{option_or}
use Rattle.snl_text.specs.Bytes.{is_name_byte}
use Rattle.snl_channels.specs.Texts.{before, after, trimmed}

-- ---- definitions

-- A macro: its name, and the value that stands for it.
pub record Macro : Type 0 where
  pub name : List ℕ
  pub value : List ℕ

-- A text in pieces: a comma (44) ends one and begins the next.
abbrev pub with_first : ℕ → List (List ℕ) → List (List ℕ)
with_first b [] = (b ∷ []) ∷ []
with_first b (piece ∷ more) = (b ∷ piece) ∷ more

abbrev pub pieces : List ℕ → List (List ℕ)
pieces [] = [] ∷ []
pieces (b ∷ more) = if b == 44 then [] ∷ pieces more else with_first b (pieces more)

-- Letters, digits and underscores, one or more.
abbrev pub is_macro_name : List ℕ → Bool
is_macro_name name = not (length name == 0) && list_all is_name_byte name

-- A name, and a value that may be empty. Another name defines nothing.
abbrev pub defined_as : List ℕ → List ℕ → List Macro
defined_as name value = if is_macro_name name then record { name = name; value = value } ∷ [] else []

-- The first `=` (61) of a piece stands between the name and the value, both without the blanks round them.
abbrev pub defined_by : List ℕ → List Macro
defined_by piece = elim (after 61 piece) [ None ↦ [] | Some value ↦ defined_as (trimmed (before 61 piece)) (trimmed value) ]

-- What a text defines, in its order.
abbrev pub definitions : List ℕ → List Macro
definitions text = flat_map defined_by (pieces text)

-- ---- values

-- The value of the last definition of a name, where there is one.
abbrev pub last_value : List ℕ → List Macro → Option (List ℕ)
last_value name [] = None
last_value name (m ∷ more) = option_or (last_value name more) (if bytes_eq m.name name then Some m.value else None)

-- A name that is not defined stands for nothing.
abbrev pub macro_value : List Macro → List ℕ → List ℕ
macro_value macros name = unwrap_or (last_value name macros) []

-- A channel's name after macros. From a `{` (123) to the next `}` (125) a value takes the place of what stands between
-- them; the value is not searched again. What stands since an open `{` is kept until then, and stays where no `}` comes.
abbrev pub replaced : (List ℕ → List ℕ) → Option (List ℕ) → List ℕ → List ℕ
replaced value None [] = []
replaced value None (b ∷ more) = if b == 123 then replaced value (Some []) more else b ∷ replaced value None more
replaced value (Some kept) [] = 123 ∷ kept
replaced value (Some kept) (b ∷ more) =
    if b == 125 then value kept ++ replaced value None more else replaced value (Some (kept ++ b ∷ [])) more

-- The macros of a program's text come before those of the run.
abbrev pub macros_of : List ℕ → List ℕ → List Macro
macros_of of_program of_run = definitions of_program ++ definitions of_run

abbrev pub after_macros : List Macro → List ℕ → List ℕ
after_macros macros name = replaced (macro_value macros) None name
