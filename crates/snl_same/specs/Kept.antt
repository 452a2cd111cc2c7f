-- What of an output is compared.
use Rattle.std.specs.Prelude.{ℕ, Bool, true, false, List, [], ◌∷◌, bytes_eq, if◌then◌else◌}
use Rattle.snl_output.specs.TraceLines.{whole_lines}
use Rattle.snl_heard.specs.Words.{time_of}
use Rattle.snl_same.specs.Words.{channel_of, counts}
use Rattle.snl_same.specs.declared.filters.Filter.{Filter}

-- The lines that count.
unfoldable pub counting : Filter → List (List ℕ) → List (List ℕ)
counting f [] = []
counting f (line ∷ lines) = if counts f line then line ∷ counting f lines else counting f lines

-- Whether the channel of a put is put to again: by one of the puts that follow at the same time, with none of another time between.
unfoldable pub is_put_again : List ℕ → List (List ℕ) → Bool
is_put_again line [] = false
is_put_again line (next ∷ lines) =
    if bytes_eq (time_of line) (time_of next) then (if bytes_eq (channel_of line) (channel_of next) then true else is_put_again line lines) else false

-- Of puts the last one to each channel at each time.
unfoldable pub last_puts : List (List ℕ) → List (List ℕ)
last_puts [] = []
last_puts (line ∷ lines) = if is_put_again line lines then last_puts lines else line ∷ last_puts lines

-- What is compared of a text: its lines, each of which ends in a newline, that count; of puts alone those that come last.
abbrev pub kept : Filter → List ℕ → List (List ℕ)
kept f text = if f.puts_only then last_puts (counting f (whole_lines text)) else counting f (whole_lines text)
