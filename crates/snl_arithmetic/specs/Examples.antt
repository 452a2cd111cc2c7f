-- Examples of arithmetic: the ends of the range, signs, shifts.
use Rattle.std.specs.Prelude.{◌≡◌, pos, negsuc, Ok, Err}
use Rattle.snl_text.specs.declared.kinds.Kind.TheVariants as kind
use Rattle.snl_arithmetic.specs.declared.arithmetic.ArithmeticFault.TheVariants.{Overflow, Division, Shift}
use Rattle.snl_arithmetic.specs.Arithmetic.{computed}

-- what operators make of numbers at the ends
abbrev pub ArithmeticExamples : Type 0
ArithmeticExamples =
    (computed kind.Percent (negsuc 9223372036854775807) (negsuc 0) ≡ Ok (pos 0))
    × (computed kind.Slash (negsuc 9223372036854775807) (negsuc 0) ≡ Err Overflow)
    × (computed kind.Plus (pos 9223372036854775807) (pos 1) ≡ Err Overflow)
    × (computed kind.Slash (negsuc 6) (pos 2) ≡ Ok (negsuc 2))
    × (computed kind.Percent (negsuc 6) (pos 2) ≡ Ok (negsuc 0))
    × (computed kind.Slash (pos 1) (pos 0) ≡ Err Division)
    × (computed kind.LessLess (pos 1) (pos 64) ≡ Err Shift)
    × (computed kind.LessLess (negsuc 0) (pos 63) ≡ Ok (negsuc 9223372036854775807))
    × (computed kind.LessLess (pos 1) (pos 63) ≡ Err Overflow)
    × (computed kind.GreaterGreater (negsuc 7) (pos 1) ≡ Ok (negsuc 3))
    × (computed kind.Caret (negsuc 3) (pos 5) ≡ Ok (negsuc 6))
