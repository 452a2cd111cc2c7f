-- What stands at a place of the source, by the bytes from there on.
use Rattle.std.specs.Prelude.{ℕ, ◌+◌, Bool, ◌&&◌, ◌||◌, List, length, take, drop, Option, Some, None, option_map, is_some, if◌then◌else◌, slice_index, false, IfSome, ◌<◌, ◌≤◌, ◌^◌, codes}
use Rattle.std.specs.List.{prefix_len}
use Rattle.snl_text.specs.Bytes.{is_blank, is_byte, is_digit, is_letter, is_name_byte, is_number_byte, is_in_line, open_with}
use Rattle.snl_text.specs.Markers.{directive_at}
use Rattle.snl_text.specs.Numbers.{whole_value, decimal_value}
use Rattle.snl_text.specs.Quotes.{quoted, through, character_at}
use Rattle.snl_text.specs.Signs.{sign_at}
use Rattle.snl_text.specs.Words.{word_kind}
use Rattle.snl_text.specs.declared.kinds.Kind.TheVariants as k
use Rattle.snl_text.specs.declared.faults.Flaw.{Flaw}
use Rattle.snl_text.specs.declared.faults.Flaw.TheVariants as flaw
use Rattle.snl_text.specs.declared.lexemes.Lexeme.{Lexeme}
use Rattle.snl_text.specs.declared.lexemes.LexemeSort.{LexemeSort}
use Rattle.snl_text.specs.declared.lexemes.LexemeSort.TheVariants as sort

-- a lexeme of a sort, so many bytes long
abbrev pub lexeme : LexemeSort → ℕ → Lexeme
lexeme sort length = record { sort = sort; length = length }

-- a number word begins here: a digit, or a point before a digit
abbrev pub begins_number : List ℕ → Bool
begins_number bytes = is_digit (slice_index bytes 0) || is_byte (codes ".") (slice_index bytes 0) && is_digit (slice_index bytes 1)

-- a name, or a reserved word: the longest run of letters, digits and underscores
unfoldable pub word_at : List ℕ → Lexeme
word_at bytes =
    let count = prefix_len is_name_byte bytes in
    lexeme (sort.Token (word_kind (take count bytes))) count

-- a number: the longest run of letters, digits, underscores and points, if it is a whole number or a decimal constant
unfoldable pub number_at : List ℕ → Option Lexeme
number_at bytes =
    let count = prefix_len is_number_byte bytes in
    if is_some (whole_value (take count bytes)) then Some (lexeme (sort.Token k.Whole) count)
    else (if is_some (decimal_value (take count bytes)) then Some (lexeme (sort.Token k.Decimal) count) else None)

-- a string, through its closing quote
unfoldable pub string_at : List ℕ → Option Lexeme
string_at bytes = option_map (λ count. lexeme (sort.Token k.Text) (1 + count)) (quoted false (drop 1 bytes))

-- a character constant
unfoldable pub character_lexeme : List ℕ → Option Lexeme
character_lexeme bytes = option_map (λ found. lexeme (sort.Token k.Character) found.1) (character_at bytes)

-- what two bytes open, through the first two that close it
unfoldable pub block_at : LexemeSort → ℕ → ℕ → List ℕ → Option Lexeme
block_at sort a b bytes = option_map (λ count. lexeme sort (2 + count)) (through a b (drop 2 bytes))

-- the same, where a text of two closes it
abbrev pub block_to : LexemeSort → List ℕ → List ℕ → Option Lexeme
block_to sort mark bytes = block_at sort (slice_index mark 0) (slice_index mark 1) bytes

-- the longest sign
unfoldable pub sign_lexeme : List ℕ → Option Lexeme
sign_lexeme bytes = option_map (λ found. lexeme (sort.Token found.0) found.1) (sign_at bytes)

-- comments, embedded C, and signs
unfoldable pub marked_at : List ℕ → Option Lexeme
marked_at bytes =
    if open_with (codes "/*") bytes then block_to sort.Skipped (codes "*/") bytes
    else (if open_with (codes "//") bytes then Some (lexeme sort.Skipped (prefix_len is_in_line bytes))
    else (if open_with (codes "%{") bytes then block_to sort.EmbeddedC (codes "}%") bytes
    else (if open_with (codes "%%") bytes then Some (lexeme sort.EmbeddedC (prefix_len is_in_line bytes))
    else sign_lexeme bytes)))

-- a newline ends its line; a space or a tab leaves it open for a marker
abbrev pub blank_sort : ℕ → LexemeSort
blank_sort byte =
    if is_byte (codes "\n") byte then sort.LineEnd else (if is_byte (codes " ") byte || is_byte (codes "\t") byte then sort.Blank else sort.Skipped)

-- The lexeme that stands at the front, if one can. `opens_line` says that no more than spaces and tabs stand
-- before it in its line.
unfoldable pub lexeme_at : Bool → List ℕ → Option Lexeme
lexeme_at opens_line bytes =
    let first = slice_index bytes 0 in
    if is_letter first then Some (word_at bytes)
    else (if begins_number bytes then number_at bytes
    else (if is_blank first then Some (lexeme (blank_sort first) 1)
    else (if is_byte (codes "\"") first then string_at bytes
    else (if is_byte (codes "'") first then character_lexeme bytes
    else (if is_byte (codes "#") first then (if opens_line then directive_at bytes else None)
    else marked_at bytes)))))

-- a marker's number is below 2^31, and its name stands in the lexeme
abbrev pub SortFits : ℕ → LexemeSort → Type 0
SortFits count (sort.Marker marker) = (marker.line < 2 ^ 31) × IfSome marker.name (λ span. (span.start ≤ span.end) × (span.end ≤ count))
SortFits count other = Unit {0}

-- a lexeme of the next bytes, of which there are so many
abbrev pub FitsIn : ℕ → Lexeme → Type 0
FitsIn count lexeme = (0 < lexeme.length) × (lexeme.length ≤ count) × SortFits lexeme.length lexeme.sort

-- what is wrong where no lexeme can stand
abbrev pub flaw_at : List ℕ → Flaw
flaw_at bytes =
    if begins_number bytes then flaw.BadNumber
    else (if open_with (codes "/*") bytes then flaw.OpenComment
    else (if open_with (codes "%{") bytes then flaw.OpenEmbeddedC
    else (if is_byte (codes "\"") (slice_index bytes 0) then flaw.OpenString else flaw.BadByte)))
