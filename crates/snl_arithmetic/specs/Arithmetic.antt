-- Arithmetic over -2^63 .. 2^63-1: what an operator makes of its operands, or the fault.
use Rattle.std.specs.Prelude.{ℕ, ◌^◌, ℤ, pos, negsuc, ◌+ℤ◌, ◌-ℤ◌, ◌*ℤ◌, neg_ℤ, int_lt, int_le, int_div, int_rem, bit_and, bit_or, bit_xor, Bool, not, Result, Ok, Err, nat_lt, if◌then◌else◌}
use Rattle.std.specs.Int.{cast_signed, cast_unsigned, int_shr, w64}
use Rattle.std.specs.Ordering.{int_eq}
use Rattle.snl_text.specs.declared.kinds.Kind.{Kind}
use Rattle.snl_text.specs.declared.kinds.Kind.TheVariants.{Comma, Bar, Caret, Ampersand, EqualEqual, BangEqual, Less, LessEqual, Greater, GreaterEqual, LessLess, GreaterGreater, Plus, Minus, Star, Slash, Percent, Bang, Tilde}
use Rattle.snl_arithmetic.specs.declared.arithmetic.ArithmeticFault.{ArithmeticFault}
use Rattle.snl_arithmetic.specs.declared.arithmetic.ArithmeticFault.TheVariants.{Overflow, Division, Shift}

-- A number lies in -2^63 .. 2^63-1.
abbrev pub is_in_range : ℤ → Bool
is_in_range (pos n) = nat_lt n (2 ^ 63)
is_in_range (negsuc n) = nat_lt n (2 ^ 63)

-- A result, unless it leaves that range.
abbrev pub in_range : ℤ → Result ℤ ArithmeticFault
in_range z = if is_in_range z then Ok z else Err Overflow

-- Whether a number is 0.
abbrev pub is_zero : ℤ → Bool
is_zero z = int_eq z (pos 0)

-- 1 for yes and 0 for no.
abbrev pub truth : Bool → ℤ
truth b = if b then pos 1 else pos 0

-- What a division or a remainder gives, unless the divisor is 0.
abbrev pub divided : (ℤ → ℤ → ℤ) → ℤ → ℤ → Result ℤ ArithmeticFault
divided by x y = if is_zero y then Err Division else in_range (by x y)

-- Bit by bit, on the two's complement of 64 bits.
abbrev pub bitwise : (ℕ → ℕ → ℕ) → ℤ → ℤ → ℤ
bitwise by x y = cast_signed w64 (by (cast_unsigned w64 x) (cast_unsigned w64 y))

-- A shift, whose count is 0 to 63.
abbrev pub shifted : (ℤ → ℕ → Result ℤ ArithmeticFault) → ℤ → ℤ → Result ℤ ArithmeticFault
shifted by x (pos n) = if nat_lt n 64 then by x n else Err Shift
shifted by x (negsuc n) = Err Shift

-- A binary operator that computes both of its operands. Division goes towards zero, and the remainder has the sign
-- of the dividend. A shift to the left multiplies, one to the right rounds down. The comma gives its right operand.
abbrev pub computed : Kind → ℤ → ℤ → Result ℤ ArithmeticFault
computed Comma x y = Ok y
computed Bar x y = Ok (bitwise bit_or x y)
computed Caret x y = Ok (bitwise bit_xor x y)
computed Ampersand x y = Ok (bitwise bit_and x y)
computed EqualEqual x y = Ok (truth (int_eq x y))
computed BangEqual x y = Ok (truth (not (int_eq x y)))
computed Less x y = Ok (truth (int_lt x y))
computed LessEqual x y = Ok (truth (int_le x y))
computed Greater x y = Ok (truth (int_lt y x))
computed GreaterEqual x y = Ok (truth (int_le y x))
computed LessLess x y = shifted (λ z n. in_range (z *ℤ pos (2 ^ n))) x y
computed GreaterGreater x y = shifted (λ z n. Ok (int_shr z n)) x y
computed Plus x y = in_range (x +ℤ y)
computed Minus x y = in_range (x -ℤ y)
computed Star x y = in_range (x *ℤ y)
computed Slash x y = divided int_div x y
computed Percent x y = divided int_rem x y
computed _ x y = Ok y

-- A prefix operator other than `++` and `--`. `+` gives its operand.
abbrev pub computed_prefix : Kind → ℤ → Result ℤ ArithmeticFault
computed_prefix Minus x = in_range (neg_ℤ x)
computed_prefix Bang x = Ok (truth (is_zero x))
computed_prefix Tilde x = Ok (pos 0 -ℤ pos 1 -ℤ x)
computed_prefix _ x = Ok x
