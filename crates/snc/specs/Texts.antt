-- The text of messages: a line for each.
use Rattle.std.specs.Prelude.{◌==◌, ◌-◌, ℕ, List, [], ◌∷◌, slice_index_or, nat_lt, if◌then◌else◌, codes, decimal}
use Rattle.std.specs.List.{concat, flat_map}
use Rattle.snl_messages.specs.declared.messages.Severity.{Severity}
use Rattle.snl_messages.specs.declared.messages.Severity.TheVariants.{Error, Warning}
use Rattle.snl_messages.specs.Messages.{Said}

-- What a file is called: the one that was read by the word of the call, and one that markers named, from 1 on, by its name.
abbrev pub file_name : List ℕ → List (List ℕ) → ℕ → List ℕ
file_name word names file = if file == 0 then word else slice_index_or names (file - 1) word

-- what stands between line and number: an error's number has two digits
abbrev pub head_of : Severity → ℕ → List ℕ
head_of Error number = if nat_lt number 10 then codes ": error: E0" else codes ": error: E"
head_of Warning number = codes ": warning: W"

-- `FILE:LINE: error: E13 TEXT`
abbrev pub line_of : List ℕ → List (List ℕ) → Said → List ℕ
line_of word names m =
    concat (file_name word names m.pos.file ∷ codes ":" ∷ decimal m.pos.line ∷ head_of m.severity m.number ∷ decimal m.number ∷ codes " " ∷ m.text ∷ codes "\n" ∷ [])

-- the lines of messages
abbrev pub messages_text : List ℕ → List (List ℕ) → List Said → List ℕ
messages_text word names messages = flat_map (line_of word names) messages
