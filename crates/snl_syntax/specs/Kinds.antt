-- What a kind of token may do in an expression.
use Rattle.std.specs.Prelude.{ℕ, Bool, true, false, not}
use denote.Enum.Bare.{sameb}
use Rattle.snl_text.specs.contracts.kinds.Kind.{the_type}
use Rattle.snl_text.specs.declared.kinds.Kind.{Kind}
use Rattle.snl_text.specs.declared.kinds.Kind.TheVariants.{Whole, Decimal, Character, OpenParenthesis, OpenBracket, Comma, Question, Equal, PlusEqual, MinusEqual, StarEqual, SlashEqual, PercentEqual, AmpersandEqual, BarEqual, CaretEqual, LessLessEqual, GreaterGreaterEqual, BarBar, AmpersandAmpersand, Bar, Caret, Ampersand, EqualEqual, BangEqual, Less, LessEqual, Greater, GreaterEqual, LessLess, GreaterGreater, Plus, Minus, Star, Slash, Percent, Bang, Tilde, PlusPlus, MinusMinus}

-- A token's kind is the given one.
abbrev pub is : Kind → Kind → Bool
is kind other = sameb the_type other kind

-- It is another one.
abbrev pub is_other : Kind → Kind → Bool
is_other kind other = not (is kind other)

-- A number or a character constant.
abbrev pub is_constant : Kind → Bool
is_constant Whole = true
is_constant Decimal = true
is_constant Character = true
is_constant _ = false

-- An operator that stands before its operand.
abbrev pub is_prefix : Kind → Bool
is_prefix Plus = true
is_prefix Minus = true
is_prefix Bang = true
is_prefix Tilde = true
is_prefix PlusPlus = true
is_prefix MinusMinus = true
is_prefix _ = false

-- How loosely a sign holds the expression that stands before it: a subscript and a call (0), `++` and
-- `--` after a place (1), the levels of binary operators (3 to 12), the conditional (13), assignments
-- (14), the comma (15), and all that cannot go on with an expression (16).
abbrev pub looseness : Kind → ℕ
looseness OpenParenthesis = 0
looseness OpenBracket = 0
looseness PlusPlus = 1
looseness MinusMinus = 1
looseness Star = 3
looseness Slash = 3
looseness Percent = 3
looseness Plus = 4
looseness Minus = 4
looseness LessLess = 5
looseness GreaterGreater = 5
looseness Less = 6
looseness LessEqual = 6
looseness Greater = 6
looseness GreaterEqual = 6
looseness EqualEqual = 7
looseness BangEqual = 7
looseness Ampersand = 8
looseness Caret = 9
looseness Bar = 10
looseness AmpersandAmpersand = 11
looseness BarBar = 12
looseness Question = 13
looseness Equal = 14
looseness PlusEqual = 14
looseness MinusEqual = 14
looseness StarEqual = 14
looseness SlashEqual = 14
looseness PercentEqual = 14
looseness AmpersandEqual = 14
looseness BarEqual = 14
looseness CaretEqual = 14
looseness LessLessEqual = 14
looseness GreaterGreaterEqual = 14
looseness Comma = 15
looseness _ = 16
