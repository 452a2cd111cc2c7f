-- What the lint `constant` stands on where the left side of an operator varies: what it refuses to its right faults.
use Rattle.std.specs.Prelude.{◌≡◌, ℤ, pos, Bool, true, false, ◌||◌, Result, Ok, Err}
use Rattle.snl_text.specs.declared.kinds.Kind.{Kind}
use Rattle.snl_text.specs.declared.kinds.Kind.TheVariants as kind
use Rattle.snl_arithmetic.specs.declared.arithmetic.ArithmeticFault.{ArithmeticFault}
use Rattle.snl_arithmetic.specs.Arithmetic.{computed}
use Rattle.snl_lints.specs.Constants.{is_division, is_shift, refuses}

-- The operator that an assignment computes, and any other one.
abbrev pub without_equal : Kind → Kind
without_equal kind.SlashEqual = kind.Slash
without_equal kind.PercentEqual = kind.Percent
without_equal kind.LessLessEqual = kind.LessLess
without_equal kind.GreaterGreaterEqual = kind.GreaterGreater
without_equal k = k

-- A fault.
abbrev pub is_fault : Result ℤ ArithmeticFault → Bool
is_fault (Ok z) = false
is_fault (Err fault) = true

-- What an operator refuses to its right faults with each number to its left.
abbrev pub RefusedSidesFault : Type 0
RefusedSidesFault = (op : Kind) (z : ℤ) → refuses op z ≡ true → (x : ℤ) → is_fault (computed (without_equal op) x z) ≡ true

-- What a division or a shift does not refuse gives a number where 0 stands to its left.
abbrev pub OthersDoNot : Type 0
OthersDoNot = (op : Kind) (z : ℤ) → (is_division op || is_shift op) ≡ true → refuses op z ≡ false → is_fault (computed (without_equal op) (pos 0) z) ≡ false
