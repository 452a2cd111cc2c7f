-- The times and values that a field spells.
use Rattle.std.specs.Prelude.{◌^◌, ◌-◌, ◌&&◌, ℕ, nat_le, Bool, List, Option, None, Some, option_map, length, ℤ, pos, if◌then◌else◌, neg_ℤ, drop}
use Rattle.snl_trace.specs.Fields.{begins_with}
use Rattle.std.specs.Char.{is_ascii_digit}
use Rattle.std.specs.List.{list_all}
use Rattle.std.specs.Str.Parse.{digits_value}

-- one to `most` digits, and nothing else
abbrev pub is_numeral : ℕ → List ℕ → Bool
is_numeral most field = nat_le 1 (length field) && nat_le (length field) most && list_all is_ascii_digit field

-- the number that one to `most` digits spell
unfoldable pub spelled_number : ℕ → List ℕ → Option ℕ
spelled_number most field = if is_numeral most field then Some (digits_value 10 field) else None

-- a number that is not above a limit
abbrev pub up_to : ℕ → Option ℕ → Option ℕ
up_to limit None = None
up_to limit (Some number) = if nat_le number limit then Some number else None

-- the time that a field spells: 1 to 16 digits, at most 10 ^ 15
abbrev pub time_of : List ℕ → Option ℕ
time_of field = up_to (10 ^ 15) (spelled_number 16 field)

-- the value below zero, or zero, of a size: it is not below -2 ^ 63
abbrev pub below_zero : Option ℕ → Option ℤ
below_zero size = option_map (λ n. neg_ℤ (pos n)) (up_to (2 ^ 63) size)

-- the value of a size: it is below 2 ^ 63
abbrev pub from_zero : Option ℕ → Option ℤ
from_zero size = option_map (λ n. pos n) (up_to (2 ^ 63 - 1) size)

-- the value that a field spells: an optional '-', and 1 to 19 digits
unfoldable pub spelled_value : List ℕ → Option ℤ
spelled_value field =
    if begins_with 45 field then below_zero (spelled_number 19 (drop 1 field))
    else from_zero (spelled_number 19 field)
