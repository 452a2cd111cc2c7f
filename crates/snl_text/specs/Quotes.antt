-- Strings, character constants and what stands between two marks.
use Rattle.std.specs.Prelude.{ℕ, suc, Bool, not, ◌&&◌, ◌==◌, List, [], ◌∷◌, length, Option, Some, None, option_map, if◌then◌else◌, slice_index, codes}
use Rattle.snl_text.specs.Bytes.{is_byte, is_control, is_from}

-- After an opening quote: how many bytes there are through the closing quote. A backslash takes the next
-- byte with it, so that a quote after it does not close. A control byte other than the tab, and the end,
-- leave the string open.
abbrev pub quoted : Bool → List ℕ → Option ℕ
quoted escaped [] = None
quoted escaped (byte ∷ bytes) =
    if is_control byte then None
    else (if is_byte (codes "\"") byte && not escaped then Some 1
    else option_map suc (quoted (is_byte (codes "\\") byte && not escaped) bytes))

-- how many bytes there are through the first two that are a and b in a row
abbrev pub through : ℕ → ℕ → List ℕ → Option ℕ
through a b [] = None
through a b (byte ∷ bytes) =
    if byte == a && slice_index bytes 0 == b then Some 2
    else option_map suc (through a b bytes)

-- how many bytes there are through the first two that are a text of two
abbrev pub through_mark : List ℕ → List ℕ → Option ℕ
through_mark mark bytes = through (slice_index mark 0) (slice_index mark 1) bytes

-- what a backslash and a byte stand for in a character constant
unfoldable pub escape_value : ℕ → Option ℕ
escape_value byte =
    if is_byte (codes "n") byte then Some 10
    else (if is_byte (codes "t") byte then Some 9
    else (if is_byte (codes "r") byte then Some 13
    else (if is_byte (codes "0") byte then Some 0
    else (if is_byte (codes "\\") byte then Some 92
    else (if is_byte (codes "'") byte then Some 39
    else (if is_byte (codes "\"") byte then Some 34
    else None))))))

-- a byte that stands for itself in a character constant
abbrev pub is_plain : ℕ → Bool
is_plain byte = is_from (codes " ~") byte && not (is_byte (codes "'") byte) && not (is_byte (codes "\\") byte)

-- The character constant at the front: its value and its length. It is a quote, one plain byte or an
-- escape of two, and a quote.
unfoldable pub character_at : List ℕ → Option (ℕ × ℕ)
character_at bytes =
    if is_byte (codes "\\") (slice_index bytes 1) then
    (if is_byte (codes "'") (slice_index bytes 3) then option_map (λ value. (value, 4)) (escape_value (slice_index bytes 2)) else None)
    else (if is_plain (slice_index bytes 1) && is_byte (codes "'") (slice_index bytes 2) then Some (slice_index bytes 1, 3) else None)

-- what was found, if it takes so many bytes
abbrev pub value_if_whole : ℕ → Option (ℕ × ℕ) → Option ℕ
value_if_whole length None = None
value_if_whole length (Some found) = if found.1 == length then Some found.0 else None

-- the value of a character constant, given its whole text
unfoldable pub character_value : List ℕ → Option ℕ
character_value text = if is_byte (codes "'") (slice_index text 0) then value_if_whole (length text) (character_at text) else None
