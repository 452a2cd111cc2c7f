-- Constants in a program: what is worth the same in every run, which operators fault by their constants, and what a variable can hold.
use Rattle.std.specs.Prelude.{ℕ, ℤ, pos, negsuc, nat_le, nat_lt, Bool, true, false, not, ◌&&◌, ◌||◌, List, [], ◌∷◌, Option, None, Some}
use Rattle.snl_text.specs.declared.kinds.Kind.{Kind}
use Rattle.snl_text.specs.declared.kinds.Kind.TheVariants as kind
use Rattle.snl_text.specs.declared.tokens.Pos.{Pos}
use Rattle.snl_syntax.specs.Expressions.{ExprTree, TermList, constant, parenthesized, named, element, call, postfix, prefix, chain, conditional, assignment, no_terms, term}
use Rattle.snl_syntax.specs.Declarations.{ValueList, no_values, last_value, value_before, InitialiserTree, single, listed}
use Rattle.snl_arithmetic.specs.Arithmetic.{is_zero}
use Rattle.snl_names.specs.declared.constants.Constant.{Constant}
use Rattle.snl_names.specs.declared.constants.Constant.TheVariants.{Varies, Faults, Worth}
use Rattle.snl_names.specs.declared.sites.Size.{Size}
use Rattle.snl_names.specs.declared.sites.Size.TheVariants.{Scalar, Array, Wrong}
use Rattle.snl_names.specs.Constants.{predefined, worth, of_token, joined, chosen, prefixed}
use Rattle.snl_names.specs.Scopes.{size_by}
use Rattle.snl_names.specs.Types.{is_in}
use Rattle.snl_lints.specs.declared.touches.ValueDomain.{ValueDomain}

-- ---- what expressions are worth

-- The number that a name is predefined to be, unless it has a declaration.
abbrev pub unless_declared : Option Pos → Option ℤ → Constant
unless_declared (Some place) number = Varies
unless_declared None number = worth number

-- What an expression is worth in every run, where this says which declarations names mean by their offsets.
abbrev mutual
  pub worth_of : (ℕ → Option Pos) → ExprTree → Constant
  worth_of declared (constant t) = of_token t.kind t.text.now
  worth_of declared (parenthesized e) = worth_of declared e
  worth_of declared (named x) = unless_declared (declared x.pos.offset) (predefined x.text.now)
  worth_of declared (element x b e) = Varies
  worth_of declared (call f all) = Varies
  worth_of declared (postfix e op) = Varies
  worth_of declared (prefix op e) = prefixed op.kind (worth_of declared e)
  worth_of declared (chain e rest) = worth_chain declared rest (worth_of declared e)
  worth_of declared (conditional c a b) = chosen (worth_of declared c) (worth_of declared a) (worth_of declared b)
  worth_of declared (assignment e op f) = Varies

  -- operators and operands after what stands to the left of them
  pub worth_chain : (ℕ → Option Pos) → TermList → Constant → Constant
  worth_chain declared no_terms left = left
  worth_chain declared (term op e rest) left = worth_chain declared rest (joined op.kind left (worth_of declared e))

-- ---- operators that fault

-- It faults.
abbrev pub faults : Constant → Bool
faults Faults = true
faults c = false

-- A division, alone or with an assignment.
abbrev pub is_division : Kind → Bool
is_division kind.Slash = true
is_division kind.Percent = true
is_division kind.SlashEqual = true
is_division kind.PercentEqual = true
is_division k = false

-- A shift, alone or with an assignment.
abbrev pub is_shift : Kind → Bool
is_shift kind.LessLess = true
is_shift kind.GreaterGreater = true
is_shift kind.LessLessEqual = true
is_shift kind.GreaterGreaterEqual = true
is_shift k = false

-- 0 to 63.
abbrev pub is_shift_count : ℤ → Bool
is_shift_count (pos n) = nat_lt n 64
is_shift_count (negsuc n) = false

-- The operator faults with this number to its right, whatever stands to its left: a division by 0, a shift by no count of places.
abbrev pub refuses : Kind → ℤ → Bool
refuses op z = (is_division op && is_zero z) || (is_shift op && not (is_shift_count z))

-- A binary operator that faults by its constants: by both, or by the right one where the left side varies. Where a side faults by
-- itself, the operator is not reached.
abbrev pub faults_between : Kind → Constant → Constant → Bool
faults_between op (Worth x) (Worth y) = faults (joined op (Worth x) (Worth y))
faults_between op Varies (Worth y) = refuses op y
faults_between op a b = false

-- A prefix operator that faults by its constant.
abbrev pub faults_before : Kind → Constant → Bool
faults_before op (Worth x) = faults (prefixed op (Worth x))
faults_before op c = false

-- An assignment whose operator faults by the constant to its right.
abbrev pub faults_assigned : Kind → Constant → Bool
faults_assigned op (Worth y) = refuses op y
faults_assigned op c = false

-- ---- what variables can hold

-- What the sizes after a declared name say: none is a scalar, and more than one is wrong.
abbrev pub size_of : (ℕ → Option Pos) → List ExprTree → Size
size_of declared [] = Scalar
size_of declared (e ∷ []) = size_by (worth_of declared e)
size_of declared (e ∷ f ∷ more) = Wrong

-- A number that a type lacks.
abbrev pub lacks : Option (ℤ × ℤ) → Constant → Bool
lacks range (Worth z) = not (is_in range z)
lacks range c = false

-- The values of a list in braces, one of which the type lacks.
abbrev pub lacks_some : (ℕ → Option Pos) → Option (ℤ × ℤ) → ValueList → Bool
lacks_some declared range no_values = false
lacks_some declared range (last_value e) = lacks range (worth_of declared e)
lacks_some declared range (value_before e rest) = lacks range (worth_of declared e) || lacks_some declared range rest

-- The type of a variable lacks what it begins with.
abbrev pub lacks_initial : (ℕ → Option Pos) → Option (ℤ × ℤ) → Option InitialiserTree → Bool
lacks_initial declared range None = false
lacks_initial declared range (Some (single e)) = lacks range (worth_of declared e)
lacks_initial declared range (Some (listed all)) = lacks_some declared range all

-- A number counts no element of an array of so many.
abbrev pub is_outside : ℕ → ℤ → Bool
is_outside size (pos k) = nat_le size k
is_outside size (negsuc k) = true

-- A variable with elements has none of this number.
abbrev pub misses : Size → ℤ → Bool
misses (Array size) z = is_outside size z
misses size z = false

-- A variable is known, and its type lacks a number.
abbrev pub lacks_number : Option ValueDomain → ℤ → Bool
lacks_number None z = false
lacks_number (Some h) z = not (is_in h.range z)

-- A variable is known, and has no element of a number.
abbrev pub misses_element : Option ValueDomain → ℤ → Bool
misses_element None z = false
misses_element (Some h) z = misses h.size z
