-- The numbers of a type, and which initialisers are good for a variable.
use Rattle.std.specs.Prelude.{ℕ, ℤ, pos, negsuc, int_le, nat_le, Bool, true, false, not, ◌&&◌, ◌||◌, List, [], ◌∷◌, length, Option, None, Some}
use Rattle.std.specs.List.{list_all}
use Rattle.snl_text.specs.declared.tokens.Token.{Token}
use Rattle.snl_text.specs.declared.kinds.Kind.{Kind}
use Rattle.snl_text.specs.declared.kinds.Kind.TheVariants.{Char, Short, Int, Long, Unsigned, Int8, Int16, Int32, Uint8, Uint16, Uint32}
use Rattle.snl_syntax.specs.Expressions.{ExprTree}
use Rattle.snl_syntax.specs.Declarations.{TypeTree, ValueList, no_values, last_value, value_before, InitialiserTree, single, listed}
use Rattle.snl_names.specs.declared.constants.Constant.{Constant}
use Rattle.snl_names.specs.declared.constants.Constant.TheVariants.{Worth}
use Rattle.snl_names.specs.declared.sites.Size.{Size}
use Rattle.snl_names.specs.Constants.{constant_of}
use Rattle.snl_names.specs.Scopes.{elements, is_array}

-- The least and the greatest number of the type `unsigned` with a second word.
abbrev pub unsigned_range : Kind → Option (ℤ × ℤ)
unsigned_range Char = Some (pos 0, pos 255)
unsigned_range Short = Some (pos 0, pos 65535)
unsigned_range Int = Some (pos 0, pos 4294967295)
unsigned_range _ = None

-- The same of a type by its words. The other types are not supported.
abbrev pub range_by : Kind → Option Token → Option (ℤ × ℤ)
range_by Char second = Some (negsuc 127, pos 127)
range_by Int8 second = Some (negsuc 127, pos 127)
range_by Short second = Some (negsuc 32767, pos 32767)
range_by Int16 second = Some (negsuc 32767, pos 32767)
range_by Int second = Some (negsuc 2147483647, pos 2147483647)
range_by Int32 second = Some (negsuc 2147483647, pos 2147483647)
range_by Long second = Some (negsuc 9223372036854775807, pos 9223372036854775807)
range_by Uint8 second = Some (pos 0, pos 255)
range_by Uint16 second = Some (pos 0, pos 65535)
range_by Uint32 second = Some (pos 0, pos 4294967295)
range_by Unsigned None = Some (pos 0, pos 4294967295)
range_by Unsigned (Some t) = unsigned_range t.kind
range_by _ second = None

-- The least and the greatest number of a type, if it is supported.
abbrev pub range_of : TypeTree → Option (ℤ × ℤ)
range_of t = range_by t.word.kind t.second

-- A variable whose type is refused counts as a `long`.
abbrev pub range_or_long : Option (ℤ × ℤ) → ℤ × ℤ
range_or_long None = (negsuc 9223372036854775807, pos 9223372036854775807)
range_or_long (Some r) = r

-- Whether a type has a number; `long` has every constant.
abbrev pub is_in : Option (ℤ × ℤ) → ℤ → Bool
is_in None z = true
is_in (Some r) z = int_le r.0 z && int_le z r.1

-- A constant that does not fault and that the type has.
abbrev pub is_constant_in : Option (ℤ × ℤ) → Constant → Bool
is_constant_in range (Worth z) = is_in range z
is_constant_in range _ = false

-- The values of a list in braces.
abbrev pub listed_values : ValueList → List ExprTree
listed_values no_values = []
listed_values (last_value e) = e ∷ []
listed_values (value_before e rest) = e ∷ listed_values rest

-- A variable of a block is initialised whenever the block is entered, so any value will do there. One that lives as
-- long as the program needs a constant that its type has.
abbrev pub is_good_constant : (List ℕ → Bool) → Bool → Option (ℤ × ℤ) → ExprTree → Bool
is_good_constant h in_block range e = in_block || is_constant_in range (constant_of h e)

-- One value for a scalar.
abbrev pub is_good_value : (List ℕ → Bool) → Bool → Option (ℤ × ℤ) → Size → ExprTree → Bool
is_good_value h in_block range size e = not (is_array size) && is_good_constant h in_block range e

-- For an array a list of no more values than it has elements.
abbrev pub is_good_list : (List ℕ → Bool) → Bool → Option (ℤ × ℤ) → Size → List ExprTree → Bool
is_good_list h in_block range size es =
    is_array size && nat_le (length es) (elements size) && (in_block || list_all (λ e. is_constant_in range (constant_of h e)) es)

-- The initialiser is good for a variable of this type and size.
abbrev pub is_good_initialiser : (List ℕ → Bool) → Bool → TypeTree → Size → Option InitialiserTree → Bool
is_good_initialiser h in_block type size None = true
is_good_initialiser h in_block type size (Some (single e)) = is_good_value h in_block (range_of type) size e
is_good_initialiser h in_block type size (Some (listed all)) = is_good_list h in_block (range_of type) size (listed_values all)
