-- The classes of bytes that the rules of source text speak of.
use Rattle.std.specs.Prelude.{ℕ, Bool, List, not, ◌&&◌, ◌||◌, ◌==◌, nat_le, nat_lt, slice_index, codes}

-- the byte is the only one of a text
abbrev pub is_byte : List ℕ → ℕ → Bool
is_byte text byte = byte == slice_index text 0

-- the byte lies in a range, ends included
abbrev pub is_between : ℕ → ℕ → ℕ → Bool
is_between low high byte = nat_le low byte && nat_le byte high

-- the byte lies between the two of a text, ends included
abbrev pub is_from : List ℕ → ℕ → Bool
is_from ends byte = is_between (slice_index ends 0) (slice_index ends 1) byte

-- the bytes begin with the two of a text
abbrev pub open_with : List ℕ → List ℕ → Bool
open_with text bytes = is_byte text (slice_index bytes 0) && slice_index bytes 1 == slice_index text 1

-- space, tab, CR, newline, form feed or vertical tab
abbrev pub is_blank : ℕ → Bool
is_blank byte = is_byte (codes " ") byte || is_between 9 13 byte

-- a blank that ends no line
abbrev pub is_inner_blank : ℕ → Bool
is_inner_blank byte = is_blank byte && not (is_byte (codes "\n") byte)

-- any byte but a newline
abbrev pub is_in_line : ℕ → Bool
is_in_line byte = not (is_byte (codes "\n") byte)

-- 0 to 9
abbrev pub is_digit : ℕ → Bool
is_digit byte = is_from (codes "09") byte

-- a letter without accent, or the underscore: the first byte of a name
abbrev pub is_letter : ℕ → Bool
is_letter byte = is_from (codes "az") byte || is_from (codes "AZ") byte || is_byte (codes "_") byte

-- a letter, a digit or the underscore: a byte of a name after the first
abbrev pub is_name_byte : ℕ → Bool
is_name_byte byte = is_letter byte || is_digit byte

-- a byte of a number word
abbrev pub is_number_byte : ℕ → Bool
is_number_byte byte = is_name_byte byte || is_byte (codes ".") byte

-- a control byte that may not stand in a string: all but the tab
abbrev pub is_control : ℕ → Bool
is_control byte = nat_lt byte 32 && not (is_byte (codes "\t") byte) || byte == 127
