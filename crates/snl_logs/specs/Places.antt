-- Digits whose point is moved, cut to a whole number.
use Rattle.std.specs.Prelude.{◌+◌, ◌-◌, ◌*◌, ◌^◌, ◌++◌, ℕ, ℤ, pos, List, [], ◌∷◌, Bool, Option, None, Some, option_map, neg_ℤ, nat_le, slice_index_or, length, take, if◌then◌else◌}

-- The number of digits that stand behind those of a number.
abbrev pub number_behind : ℕ → List ℕ → ℕ
number_behind number [] = number
number_behind number (digit ∷ digits) = number_behind (number * 10 + (digit - 48)) digits

-- The number in front of a point that stands behind so many places: where there are fewer digits, zeros stand.
abbrev pub front_of : List ℕ → ℕ → ℕ
front_of digits places = number_behind 0 (take places digits) * 10 ^ (places - length digits)

-- Whether the first digit behind the point is 5 or more.
abbrev pub is_half : List ℕ → ℕ → Bool
is_half digits places = nat_le 53 (slice_index_or digits places 48)

-- The number cut to a whole one: from a half on it goes up.
abbrev pub rounded : List ℕ → ℕ → ℕ
rounded digits places = front_of digits places + (if is_half digits places then 1 else 0)

-- A number that is not above a limit.
abbrev pub up_to : ℕ → ℕ → Option ℕ
up_to limit number = if nat_le number limit then Some number else None

-- A size with its sign, as a number of 64 bits.
abbrev pub signed : Bool → ℕ → Option ℤ
signed is_negative size =
    if is_negative then option_map (λ n. neg_ℤ (pos n)) (up_to (2 ^ 63) size)
    else option_map (λ n. pos n) (up_to (2 ^ 63 - 1) size)
