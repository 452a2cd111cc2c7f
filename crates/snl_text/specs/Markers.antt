-- Lines whose first byte but for spaces and tabs is `#`.
use Rattle.std.specs.Prelude.{ℕ, ◌+◌, Bool, false, ◌&&◌, ◌||◌, ◌==◌, nat_le, nat_lt, nat_eq, List, length, take, drop, Option, Some, None, option_map, if◌then◌else◌, slice_index, codes}
use Rattle.std.specs.List.{prefix_len, starts_with}
use Rattle.snl_text.specs.Bytes.{is_blank, is_byte, is_digit, is_inner_blank, is_in_line}
use Rattle.snl_text.specs.Numbers.{numeral_value}
use Rattle.snl_text.specs.Quotes.{quoted}
use Rattle.snl_text.specs.declared.markers.Marker.{Marker}
use Rattle.snl_text.specs.declared.markers.Span.{Span}
use Rattle.snl_text.specs.declared.lexemes.Lexeme.{Lexeme}
use Rattle.snl_text.specs.declared.lexemes.LexemeSort.{LexemeSort}
use Rattle.snl_text.specs.declared.lexemes.LexemeSort.TheVariants as sort

-- the line ends at the place, or has a blank there
abbrev pub is_parted : List ℕ → ℕ → Bool
is_parted line place = nat_le (length line) place || is_blank (slice_index line place)

-- Where the number begins: after the `#`, any blanks, and, if it is there, the word `line` with one blank.
unfoldable pub number_start : List ℕ → ℕ
number_start line =
    let front = 1 + prefix_len is_inner_blank (drop 1 line) in
    let rest = drop front line in
    if starts_with nat_eq rest (codes "line") && is_blank (slice_index rest 4) then front + 5 else front

-- the name between quotes that begin at a place, of which so many bytes are there through the closing one
abbrev pub name_if_parted : List ℕ → ℕ → Option ℕ → Option Span
name_if_parted line quote None = None
name_if_parted line quote (Some count) =
    if is_parted line (quote + 1 + count) then Some (record { start = quote + 1; end = quote + count }) else None

-- Where the name stands after a number that ends at the place: between the quotes of a whole string, after
-- blanks, with nothing or a blank after it.
unfoldable pub name_at : List ℕ → ℕ → Option Span
name_at line place =
    let quote = place + prefix_len is_inner_blank (drop place line) in
    if nat_lt quote (length line) && is_byte (codes "\"") (slice_index line quote)
    then name_if_parted line quote (quoted false (drop (quote + 1) line)) else None

-- The marker that a line is: 1 to 9 digits, and then nothing or a blank and anything.
unfoldable pub marker_at : List ℕ → Option Marker
marker_at line =
    let start = number_start line in
    let count = prefix_len is_digit (drop start line) in
    if nat_lt 0 count && nat_lt count 10 && is_parted line (start + count)
    then option_map (λ number. record { line = number; name = name_at line (start + count) })
    (numeral_value 10 (take count (drop start line)))
    else None

-- What the line at the front says: nothing, where it begins `#pragma`; else it has to be a marker.
abbrev pub says_of : List ℕ → Option LexemeSort
says_of line =
    if starts_with nat_eq line (codes "#pragma") then Some sort.LineEnd
    else option_map (λ marker. sort.Marker marker) (marker_at line)

-- The lexeme that the line at the front is, with the newline after it. On a last line, that no newline ends,
-- it says nothing.
unfoldable pub directive_at : List ℕ → Option Lexeme
directive_at bytes =
    let count = prefix_len is_in_line bytes in
    option_map (λ says. if count == length bytes
    then record { sort = sort.Skipped; length = count }
    else record { sort = says; length = count + 1 }) (says_of (take count bytes))
