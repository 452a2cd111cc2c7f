-- Whole numbers and decimal constants: which texts they are, and what they are worth.
use Rattle.std.specs.Prelude.{ℕ, ◌+◌, ◌-◌, ◌*◌, ◌^◌, Bool, ◌&&◌, ◌||◌, ◌==◌, nat_le, nat_lt, List, length, take, drop, fold, Option, Some, None, if◌then◌else◌, slice_index, ◌++◌, codes}
use Rattle.std.specs.List.{list_all}
use Rattle.std.specs.List.{prefix_len}
use Rattle.snl_text.specs.Bytes.{is_byte, is_digit, is_from}
use Rattle.snl_text.specs.declared.numbers.DecimalValue.{DecimalValue}

-- what a digit is worth; 16, which no base has, for a byte that is no digit
abbrev pub digit_value : ℕ → ℕ
digit_value byte =
    if is_from (codes "09") byte then byte - 48
    else (if is_from (codes "af") byte then byte - 87
    else (if is_from (codes "AF") byte then byte - 55 else 16))

-- what digits are worth together, the first one most
abbrev pub digits_value : ℕ → List ℕ → ℕ
digits_value base digits = fold (λ value byte. value * base + digit_value byte) 0 digits

-- the value of digits of a base, if there are no other bytes and it is at most 2^63 - 1; of no digits 0
unfoldable pub numeral_value : ℕ → List ℕ → Option ℕ
numeral_value base text =
    if list_all (λ byte. nat_lt (digit_value byte) base) text && nat_lt (digits_value base text) (2 ^ 63)
    then Some (digits_value base text) else None

-- the same of at least one digit
unfoldable pub value_in : ℕ → List ℕ → Option ℕ
value_in base text = if length text == 0 then None else numeral_value base text

-- the text without an `L` or `l` at its end
unfoldable pub without_suffix : List ℕ → List ℕ
without_suffix text =
    let last = slice_index text (length text - 1) in
    if is_byte (codes "L") last || is_byte (codes "l") last then take (length text - 1) text else text

-- Whole numbers: after `0x` or `0X` hexadecimal digits, after `0` octal ones, else decimal ones; an `L` or
-- `l` may end them.
unfoldable pub whole_value : List ℕ → Option ℕ
whole_value text =
    let digits = without_suffix text in
    if is_byte (codes "0") (slice_index digits 0) && (is_byte (codes "x") (slice_index digits 1) || is_byte (codes "X") (slice_index digits 1)) then value_in 16 (drop 2 digits)
    else (if is_byte (codes "0") (slice_index digits 0) then value_in 8 digits else value_in 10 digits)

-- three digits: those at the front of the fraction, with zeros after them where it has fewer
abbrev pub thousandths_of : List ℕ → ℕ
thousandths_of fraction = digits_value 10 (take 3 (fraction ++ codes "000"))

-- whether no digit after the third is other than 0
abbrev pub is_exact : List ℕ → Bool
is_exact fraction = list_all (is_byte (codes "0")) (drop 3 fraction)

-- a whole part of at most 10^12, and the digits after the point
abbrev pub decimal_of : Option ℕ → List ℕ → Option DecimalValue
decimal_of None fraction = None
decimal_of (Some whole) fraction =
    if nat_le whole 1000000000000 then Some (record {
      thousandths = whole * 1000 + thousandths_of fraction;
      is_exact = is_exact fraction;
    }) else None

-- Decimal constants: digits with one point, at least one digit, and a whole part of at most 10^12.
unfoldable pub decimal_value : List ℕ → Option DecimalValue
decimal_value text =
    let point = prefix_len is_digit text in
    if nat_lt point (length text) && is_byte (codes ".") (slice_index text point) && list_all is_digit (drop (point + 1) text) && nat_lt 1 (length text)
    then decimal_of (numeral_value 10 (take point text)) (drop (point + 1) text) else None
