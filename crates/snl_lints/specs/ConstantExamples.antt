-- Examples: the remarks on constants and on names of channels, computed.
use Rattle.std.specs.Prelude.{◌≡◌, ℕ, List, [], ◌∷◌, ◌++◌, None, Some, codes}
use Rattle.snl_text.specs.declared.kinds.Kind.{Kind}
use Rattle.snl_text.specs.declared.kinds.Kind.TheVariants as kind
use Rattle.snl_syntax.specs.Expressions.{ExprTree, constant, parenthesized, named, element, prefix, chain, assignment, term, no_terms}
use Rattle.snl_syntax.specs.Declarations.{DeclarationTree, single}
use Rattle.snl_syntax.specs.Definitions.{DefinitionTree, declaration}
use Rattle.snl_syntax.specs.Programs.{ProgramTree}
use Rattle.snl_syntax.specs.Statements.{no_statements, block}
use Rattle.snl_lints.specs.declared.remarks.Lint.{Lint}
use Rattle.snl_lints.specs.declared.remarks.Lint.TheVariants as lint
use Rattle.snl_lints.specs.Examples.{token, x, sign, use_of, one, declared, assigned_to, plain, said_of, said_with}

-- ---- names of channels

-- `assign x to "NAME";`, with the text at offset 0
abbrev pub to_name : List ℕ → ProgramTree
to_name name = plain (declared ∷ assigned_to (codes "\"" ++ name ++ codes "\"") ∷ []) None []

-- the same in `program a("TEXT")`
abbrev pub with_macros : List ℕ → List ℕ → ProgramTree
with_macros text name = record (to_name name) { macros = Some (token kind.Text 0 (codes "\"" ++ text ++ codes "\"")) }

-- macros that are not defined, and that the call or the program defines; a brace that stays open, and one that is closed twice
pub record MacroExamples : Type 0 where
  pub undefined : said_of (to_name (codes "{P}c")) ≡ (lint.Undefined, 0) ∷ []
  pub by_call : said_with (codes "P=b:") (to_name (codes "{P}c")) ≡ []
  pub by_program : said_of (with_macros (codes "P=b:") (codes "{P}c")) ≡ []
  pub empty : said_with (codes "P=") (to_name (codes "{P}c")) ≡ []
  pub another : said_with (codes "Q=b:") (to_name (codes "{Q}{P}c")) ≡ (lint.Undefined, 0) ∷ []
  pub unclosed : said_with (codes "P=b:") (to_name (codes "c{P")) ≡ (lint.Unclosed, 0) ∷ []
  pub closed : said_with (codes "P=b:") (to_name (codes "{P}c}")) ≡ []

-- a name with a blank, with a control byte and with a byte above ASCII, by itself or by a macro; plain ones, and none
pub record SpokenExamples : Type 0 where
  pub blank : said_of (to_name (codes "a b")) ≡ (lint.Unspoken, 0) ∷ []
  pub by_macro : said_with (codes "P=a b") (to_name (codes "{P}:c")) ≡ (lint.Unspoken, 0) ∷ []
  pub control : said_of (to_name (97 ∷ 127 ∷ [])) ≡ (lint.Unspoken, 0) ∷ []
  pub above : said_of (to_name (97 ∷ 228 ∷ [])) ≡ (lint.Unspoken, 0) ∷ []
  pub told : said_of (to_name (codes "A:b-c.VAL")) ≡ []
  pub nothing : said_of (to_name []) ≡ []

-- ---- constants

-- a whole number
abbrev pub whole : List ℕ → ExprTree
whole bytes = constant (token kind.Whole 0 bytes)

-- `left OPERATOR right`, with the operator at offset 62
abbrev pub joined_at : Kind → ExprTree → ExprTree → ExprTree
joined_at k left right = chain left (term (token k 62 []) right no_terms)

-- a program of these definitions that computes this
abbrev pub computing : List DefinitionTree → ExprTree → List (Lint × ℕ)
computing defs e = said_of (plain defs None (e ∷ []))

-- `FALSE`
abbrev pub false_name : ExprTree
false_name = named (token kind.Name 66 (codes "FALSE"))

-- a declaration of a type, with a name at offset 4 and sizes
abbrev pub declared_as : Kind → List ℕ → List ExprTree → DefinitionTree
declared_as type name sizes = declaration (record { type_name = record { word = sign type; second = None }; names = record { name = token kind.Name 4 name; sizes = sizes; initial = None } ∷ [] })

-- operators: `x / 0` and `x / 1`, `1 << 64` and `x >> 63`, `1 << 63`, `0 && 1 / 0`, `-x` and `x <<= 64`, `x / FALSE` by its number and by a variable of that name
pub record OperatorExamples : Type 0 where
  pub by_zero : computing (declared ∷ []) (joined_at kind.Slash (use_of 60) (whole (codes "0"))) ≡ (lint.Faulting, 62) ∷ []
  pub by_one : computing (declared ∷ []) (joined_at kind.Slash (use_of 60) one) ≡ []
  pub shift : computing [] (joined_at kind.LessLess one (whole (codes "64"))) ≡ (lint.Faulting, 62) ∷ []
  pub last_shift : computing (declared ∷ []) (joined_at kind.GreaterGreater (use_of 60) (whole (codes "63"))) ≡ []
  pub overflow : computing [] (joined_at kind.LessLess one (whole (codes "63"))) ≡ (lint.Faulting, 62) ∷ []
  pub not_reached : computing [] (chain (whole (codes "0")) (term (sign kind.AmpersandAmpersand) (joined_at kind.Slash one (whole (codes "0"))) no_terms)) ≡ (lint.Faulting, 62) ∷ []
  pub assigned : computing (declared ∷ []) (assignment (use_of 60) (token kind.LessLessEqual 62 []) (whole (codes "64"))) ≡ (lint.Faulting, 62) ∷ []
  pub predefined : computing (declared ∷ []) (joined_at kind.Percent (use_of 60) false_name) ≡ (lint.Faulting, 62) ∷ []
  pub hidden : computing (declared ∷ declared_as kind.Int (codes "FALSE") [] ∷ []) (joined_at kind.Percent (use_of 60) false_name) ≡ []

-- a declaration of `char y` in a block, with this value
abbrev pub in_block : List ℕ → DeclarationTree
in_block bytes = record { type_name = record { word = sign kind.Char; second = None }; names = record { name = token kind.Name 70 (codes "y"); sizes = []; initial = Some (single (whole bytes)) } ∷ [] }

-- a program with it in its `entry` block
abbrev pub beginning : List ℕ → List (Lint × ℕ)
beginning bytes = said_of (record (plain [] None []) { entry = Some (block (in_block bytes ∷ []) no_statements) })

-- numbers that a `char` lacks and has, given by `=` and as first values of a block; elements of `int x[3]`
pub record HeldExamples : Type 0 where
  pub lacked : computing (declared_as kind.Char (codes "x") [] ∷ []) (assignment (use_of 60) (sign kind.Equal) (whole (codes "128"))) ≡ (lint.Unfitting, 60) ∷ []
  pub had : computing (declared_as kind.Char (codes "x") [] ∷ []) (assignment (use_of 60) (sign kind.Equal) (whole (codes "127"))) ≡ []
  pub signed : computing (declared_as kind.Unsigned (codes "x") [] ∷ []) (assignment (parenthesized (use_of 60)) (sign kind.Equal) (prefix (sign kind.Minus) one)) ≡ (lint.Unfitting, 60) ∷ []
  pub varies : computing (declared_as kind.Char (codes "x") [] ∷ []) (assignment (use_of 60) (sign kind.Equal) (joined_at kind.Plus (use_of 64) (whole (codes "128")))) ≡ []
  pub outside : computing (declared_as kind.Int (codes "x") (whole (codes "3") ∷ []) ∷ []) (element (x 60) (sign kind.OpenBracket) (whole (codes "3"))) ≡ (lint.Missing, 60) ∷ []
  pub inside : computing (declared_as kind.Int (codes "x") (whole (codes "3") ∷ []) ∷ []) (element (x 60) (sign kind.OpenBracket) (whole (codes "2"))) ≡ []
  pub below : computing (declared_as kind.Int (codes "x") (whole (codes "3") ∷ []) ∷ []) (element (x 60) (sign kind.OpenBracket) (prefix (sign kind.Minus) one)) ≡ (lint.Missing, 60) ∷ []
  pub begun : beginning (codes "128") ≡ (lint.Unfitting, 70) ∷ []
  pub begun_well : beginning (codes "127") ≡ []
