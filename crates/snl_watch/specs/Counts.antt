-- Lines that are counted while they come in pieces.
use Rattle.std.specs.Prelude.{◌≡◌, ◌==◌, ◌+◌, ◌-◌, ◌^◌, ◌&&◌, ℕ, Bool, true, false, List, [], ◌∷◌, ◌++◌, Option, None, Some, option_map, length, min, nat_lt, position, replicate, slice_index_or, slice_set, take, if◌then◌else◌}
use Rattle.std.specs.Char.{is_ascii_digit}
use Rattle.std.specs.List.{All, fold, list_all}
use Rattle.std.specs.Str.{bytes_eq}

-- ---- lines

-- A text cut at its newlines: the lines that ended, and what came since.
pub record Cut : Type 0 where
  pub done : List (List ℕ)
  pub begun : List ℕ

-- Nothing came yet.
abbrev pub no_cut : Cut
no_cut = record { done = []; begun = [] }

-- One more byte.
abbrev pub with_byte : Cut → ℕ → Cut
with_byte c byte =
    if byte == 10 then record { done = c.done ++ c.begun ∷ []; begun = [] }
    else record { done = c.done; begun = c.begun ++ byte ∷ [] }

-- More bytes.
abbrev pub cut_on : Cut → List ℕ → Cut
cut_on c [] = c
cut_on c (byte ∷ bytes) = cut_on (with_byte c byte) bytes

-- The cut of a text.
abbrev pub cut : List ℕ → Cut
cut text = cut_on no_cut text

-- What follows the digits that a line begins with.
abbrev pub behind_digits : List ℕ → List ℕ
behind_digits [] = []
behind_digits (byte ∷ bytes) = if is_ascii_digit byte then behind_digits bytes else byte ∷ bytes

-- How many lines show a text: have it behind their digits.
abbrev pub lines_showing : List ℕ → List (List ℕ) → ℕ
lines_showing text [] = 0
lines_showing text (line ∷ lines) = (if bytes_eq (behind_digits line) text then 1 else 0) + lines_showing text lines

-- ---- counts

-- The number of a key.
abbrev pub place_of : List (List ℕ) → List ℕ → Option ℕ
place_of keys name = position (bytes_eq name) keys

-- The count of a key; 0 where there is none.
abbrev pub count_at : List ℕ → ℕ → ℕ
count_at counts key = slice_index_or counts key 0

-- The count of a key by its bytes; None where it is not counted, or has as many bytes as are looked at.
abbrev pub count_in : List (List ℕ) → ℕ → List ℕ → List ℕ → Option ℕ
count_in keys room counts key = if nat_lt (length key) room then option_map (count_at counts) (place_of keys key) else None

-- One more at a key. A count stops at the largest number of 64 bits.
abbrev pub counted_at : List ℕ → Option ℕ → List ℕ
counted_at counts None = counts
counted_at counts (Some key) = slice_set counts key (min (count_at counts key + 1) (2 ^ 64 - 1))

-- One more line, by what follows its digits.
abbrev pub counted : List (List ℕ) → List ℕ → List ℕ → List ℕ
counted keys counts rest = counted_at counts (place_of keys rest)

-- As many zeros as there are keys.
abbrev pub zeros : List (List ℕ) → List ℕ
zeros keys = replicate (length keys) 0

-- The counts of lines, of which so many bytes behind the digits are looked at.
abbrev pub counts_of : List (List ℕ) → ℕ → List (List ℕ) → List ℕ
counts_of keys room lines = fold (λ counts line. counted keys counts (take room (behind_digits line))) (zeros keys) lines

-- ---- step by step

-- Whether nothing but digits came of this line, what came behind them, and the counts.
abbrev pub Reading : Type 0
Reading = Bool × List ℕ × List ℕ

-- What is known of a cut.
abbrev pub reading_of : List (List ℕ) → ℕ → Cut → Reading
reading_of keys room c = (list_all is_ascii_digit c.begun, take room (behind_digits c.begun), counts_of keys room c.done)

-- Other counts.
abbrev pub with_counts : Reading → List ℕ → Reading
with_counts r counts = (r.0, r.1, counts)

-- Other bytes behind the digits.
abbrev pub with_rest : Reading → List ℕ → Reading
with_rest r rest = (r.0, rest, r.2)

-- A byte is kept where there is room.
abbrev pub kept : ℕ → List ℕ → ℕ → List ℕ
kept room rest byte = if nat_lt (length rest) room then rest ++ byte ∷ [] else rest

-- One more byte.
abbrev pub step : List (List ℕ) → ℕ → Reading → ℕ → Reading
step keys room r byte =
    if byte == 10 then (true, [], counted keys r.2 r.1)
    else if r.0 && is_ascii_digit byte then r
    else (false, kept room r.1 byte, r.2)

-- More bytes.
abbrev pub after : List (List ℕ) → ℕ → Reading → List ℕ → Reading
after keys room r [] = r
after keys room r (byte ∷ bytes) = after keys room (step keys room r byte) bytes
