-- The lines of a trace, as they are written.
use Rattle.std.specs.Prelude.{◌&&◌, ℕ, ℤ, Bool, List, [], ◌∷◌, ◌++◌, codes, decimal, map, nat_le}
use Rattle.std.specs.Fmt.{signed_decimal}
use Rattle.std.specs.List.{flat_map, list_all}
use Rattle.snl_trace.specs.Fields.{is_filled}

-- A byte that a name of a trace can have: printable ASCII, and no space.
abbrev pub is_name_byte : ℕ → Bool
is_name_byte byte = nat_le 33 byte && nat_le byte 126

-- Whether all bytes are such.
abbrev pub are_name_bytes : List ℕ → Bool
are_name_bytes name = list_all is_name_byte name

-- A name that a trace can have.
abbrev pub is_name : List ℕ → Bool
is_name name = is_filled name && are_name_bytes name

-- A word behind a space.
abbrev pub spaced : List ℕ → List ℕ
spaced word = 32 ∷ word

-- A time and words, without a newline.
abbrev pub words_at : ℕ → List (List ℕ) → List ℕ
words_at ms words = decimal ms ++ flat_map spaced words

-- The same as a line.
abbrev pub line_with : ℕ → List (List ℕ) → List ℕ
line_with ms words = decimal ms ++ (flat_map spaced words ++ 10 ∷ [])

-- `MS up NAME`
abbrev pub up_line : ℕ → List ℕ → List ℕ
up_line ms name = line_with ms (codes "up" ∷ name ∷ [])

-- `MS down NAME`
abbrev pub down_line : ℕ → List ℕ → List ℕ
down_line ms name = line_with ms (codes "down" ∷ name ∷ [])

-- `MS done NAME`
abbrev pub done_line : ℕ → List ℕ → List ℕ
done_line ms name = line_with ms (codes "done" ∷ name ∷ [])

-- `MS tick`
abbrev pub tick_line : ℕ → List ℕ
tick_line ms = line_with ms (codes "tick" ∷ [])

-- `MS val NAME VALUE ..`
abbrev pub values_line : ℕ → List ℕ → List ℤ → List ℕ
values_line ms name values = line_with ms (codes "val" ∷ name ∷ map signed_decimal values)
