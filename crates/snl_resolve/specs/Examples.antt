-- Examples: constants, meanings and sites of small trees, computed.
use Rattle.std.specs.Prelude.{◌≡◌, ℕ, pos, negsuc, Bool, true, false, List, [], ◌∷◌, Some, None, codes}
use Rattle.snl_text.specs.declared.tokens.Token.{Token}
use Rattle.snl_text.specs.declared.kinds.Kind.{Kind}
use Rattle.snl_text.specs.declared.kinds.Kind.TheVariants as kind
use Rattle.snl_syntax.specs.Expressions.{ExprTree, constant, parenthesized, named, call, chain, prefix, no_terms, term, no_arguments, value, text}
use Rattle.snl_syntax.specs.Declarations.{DeclaratorTree}
use Rattle.snl_syntax.specs.Statements.{while_loop, break_loop}
use Rattle.snl_syntax.specs.Definitions.{DefinitionTree, declaration, event_flags}
use Rattle.snl_names.specs.declared.constants.Constant.TheVariants.{Varies, Faults, Worth}
use Rattle.snl_names.specs.declared.sites.Meaning.TheVariants.{Variable, Flag, Number, Nothing}
use Rattle.snl_names.specs.declared.sites.Purpose.TheVariants.{Read, Channel, Ignored}
use Rattle.snl_names.specs.declared.sites.Size.TheVariants.{Scalar, Array, Wrong}
use Rattle.snl_names.specs.declared.sites.Site.TheVariants.{Use, Decimal, Call, Format, LoopExit}
use Rattle.snl_names.specs.Constants.{constant_of}
use Rattle.snl_names.specs.Numbered.{number_of}
use Rattle.snl_names.specs.Scopes.{scope_of, meaning}
use Rattle.snl_names.specs.Sites.{in_expression, in_statement}
use Rattle.snl_names.specs.Sights.{Sight}
use Rattle.snl_names.specs.declared.sites.Room.TheVariants as room

-- a token at an offset
abbrev pub token : Kind → ℕ → List ℕ → Token
token kind offset bytes = record { kind = kind; text = record { ref_ptr = (0, 0); now = bytes }; pos = record { offset = offset; file = 0; line = 1 } }

-- a name at an offset
abbrev pub name : ℕ → List ℕ → Token
name = token kind.Name

-- a whole number
abbrev pub whole : List ℕ → ExprTree
whole bytes = constant (token kind.Whole 0 bytes)

-- an operator or a word
abbrev pub sign : Kind → Token
sign k = token k 0 []

-- left, an operator, right
abbrev pub binary : Kind → ExprTree → ExprTree → ExprTree
binary k a b = chain a (term (sign k) b no_terms)

-- no name is declared
abbrev pub nothing_hidden : List ℕ → Bool
nothing_hidden x = false

-- each name is declared
abbrev pub all_hidden : List ℕ → Bool
all_hidden x = true

-- `TRUE`
abbrev pub true_name : ExprTree
true_name = named (name 0 (codes "TRUE"))

-- `1 / 0`
abbrev pub by_zero : ExprTree
by_zero = binary kind.Slash (whole (codes "1")) (whole (codes "0"))

-- `int` and declared names, each with its sizes
abbrev pub ints : List DeclaratorTree → DefinitionTree
ints names = declaration (record { type_name = record { word = sign kind.Int; second = None }; names = names })

-- a declared name with its sizes
abbrev pub sized : Token → List ExprTree → DeclaratorTree
sized t sizes = record { name = t; sizes = sizes; initial = None }

-- ---- constants: `0 && 1 / 0` is 0, and `0 && x` is no constant; `1 / 0` faults; `TRUE` is 1 where nothing hides it
abbrev pub ConstantExamples : Type 0
ConstantExamples =
    (constant_of nothing_hidden (binary kind.AmpersandAmpersand (whole (codes "0")) by_zero) ≡ Worth (pos 0))
    × (constant_of nothing_hidden (binary kind.AmpersandAmpersand (whole (codes "0")) (named (name 0 (codes "x")))) ≡ Varies)
    × (constant_of nothing_hidden (binary kind.BarBar (whole (codes "0x10")) by_zero) ≡ Worth (pos 1))
    × (constant_of nothing_hidden by_zero ≡ Faults)
    × (constant_of nothing_hidden true_name ≡ Worth (pos 1))
    × (constant_of all_hidden true_name ≡ Varies)
    × (constant_of nothing_hidden (prefix (sign kind.Minus) (parenthesized (whole (codes "017")))) ≡ Worth (negsuc 14))

-- ---- scopes: `int a[TRUE], a[2];` and `int b[TRUE], TRUE;`
abbrev pub ScopeExamples : Type 0
ScopeExamples =
    (scope_of [] (ints (sized (name 4 (codes "a")) (true_name ∷ []) ∷ []) ∷ []) ≡ record { name = name 4 (codes "a"); size = Some (Array 1) } ∷ [])
    × (scope_of [] (ints (sized (name 4 (codes "b")) (true_name ∷ []) ∷ sized (name 13 (codes "TRUE")) [] ∷ []) ∷ [])
    ≡ record { name = name 4 (codes "b"); size = Some Wrong } ∷ record { name = name 13 (codes "TRUE"); size = Some Scalar } ∷ [])
    × (meaning (scope_of [] (ints (sized (name 4 (codes "a")) [] ∷ sized (name 7 (codes "a")) (whole (codes "2") ∷ []) ∷ []) ∷ []) ∷ []) (name 20 (codes "a"))
    ≡ Variable (record { offset = 4; file = 0; line = 1 }) Scalar)
    × (meaning (scope_of [] (event_flags (name 5 (codes "a") ∷ []) ∷ []) ∷ scope_of [] (ints (sized (name 4 (codes "a")) [] ∷ []) ∷ []) ∷ []) (name 20 (codes "a"))
    ≡ Flag (record { offset = 5; file = 0; line = 1 }))
    × (meaning [] (name 20 (codes "TRUE")) ≡ Number)
    × (meaning [] (name 20 (codes "true")) ≡ Nothing)
    × (number_of (name 1 (codes "s") ∷ name 2 (codes "t") ∷ name 3 (codes "t") ∷ []) (codes "t") ≡ Some 1)

-- ---- sites: `delay(0.5)` and `delay((0.5))` in a condition, `printf("%x", 1)`, `f(x)`, `while (1) break;`
abbrev pub half : ExprTree
half = constant (token kind.Decimal 6 (codes "0.5"))

-- nothing is in sight
abbrev pub bare : Sight
bare = record { scopes = []; functions = [] }

-- as the sites of these are computed by hand
abbrev pub SiteExamples : Type 0
SiteExamples =
    (in_expression true bare Read (call (name 0 (codes "delay")) (value half no_arguments))
    ≡ Call (name 0 (codes "delay")) true true true true None ∷ Decimal (token kind.Decimal 6 (codes "0.5")) true ∷ [])
    × (in_expression true bare Read (call (name 0 (codes "delay")) (value (parenthesized half) no_arguments))
    ≡ Call (name 0 (codes "delay")) true true true true None ∷ Decimal (token kind.Decimal 6 (codes "0.5")) false ∷ [])
    × (in_expression false bare Read (call (name 0 (codes "delay")) no_arguments) ≡ Call (name 0 (codes "delay")) true false false true None ∷ [])
    × (in_expression false bare Read (call (name 0 (codes "printf")) (text (token kind.Text 7 (codes "\"%x\"")) (value (whole (codes "1")) no_arguments)))
    ≡ Call (name 0 (codes "printf")) true true true true None ∷ Format (token kind.Text 7 (codes "\"%x\"")) false ∷ [])
    × (in_expression false bare Read (call (name 0 (codes "printf")) (text (token kind.Text 7 (codes "\"%ld%%\"")) (value (whole (codes "1")) no_arguments)))
    ≡ Call (name 0 (codes "printf")) true true true true None ∷ Format (token kind.Text 7 (codes "\"%ld%%\"")) true ∷ [])
    × (in_expression false bare Read (call (name 0 (codes "f")) (value (named (name 2 (codes "x"))) no_arguments))
    ≡ Call (name 0 (codes "f")) false true true true None ∷ Use Ignored (name 2 (codes "x")) Nothing false ∷ [])
    × (in_statement room.Clause [] bare false (while_loop (sign kind.While) (whole (codes "1")) (break_loop (sign kind.Break))) ≡ LoopExit (sign kind.Break) true ∷ [])

-- ---- `ASYNC`: `pvPut(x, ASYNC)`, `pvPut(x, y)`, `foo(pvPut(x, ASYNC))`, `pvGet(x, ASYNC)`, `pvPut(x, (ASYNC))`, `pvPutComplete(x)`; no name is declared
abbrev pub use_of : ℕ → List ℕ → ExprTree
use_of offset bytes = named (name offset bytes)

-- as their sites are computed by hand
abbrev pub AsyncExamples : Type 0
AsyncExamples =
    (in_expression false bare Read (call (name 0 (codes "pvPut")) (value (use_of 6 (codes "x")) (value (use_of 9 (codes "ASYNC")) no_arguments)))
    ≡ Call (name 0 (codes "pvPut")) true true true true None ∷ Use Channel (name 6 (codes "x")) Nothing false ∷ [])
    × (in_expression false bare Read (call (name 0 (codes "pvPut")) (value (use_of 6 (codes "x")) (value (use_of 9 (codes "y")) no_arguments)))
    ≡ Call (name 0 (codes "pvPut")) true false true true None ∷ Use Ignored (name 6 (codes "x")) Nothing false ∷ Use Ignored (name 9 (codes "y")) Nothing false ∷ [])
    × (in_expression false bare Read (call (name 0 (codes "foo")) (value (call (name 4 (codes "pvPut")) (value (use_of 10 (codes "x")) (value (use_of 13 (codes "ASYNC")) no_arguments))) no_arguments))
    ≡ Call (name 0 (codes "foo")) false true true true None ∷ Call (name 4 (codes "pvPut")) true true true true None ∷ Use Ignored (name 10 (codes "x")) Nothing false ∷ [])
    × (in_expression false bare Read (call (name 0 (codes "pvGet")) (value (use_of 6 (codes "x")) (value (use_of 9 (codes "ASYNC")) no_arguments)))
    ≡ Call (name 0 (codes "pvGet")) true false true true None ∷ Use Ignored (name 6 (codes "x")) Nothing false ∷ Use Ignored (name 9 (codes "ASYNC")) Nothing false ∷ [])
    × (in_expression false bare Read (call (name 0 (codes "pvPut")) (value (use_of 6 (codes "x")) (value (parenthesized (use_of 10 (codes "ASYNC"))) no_arguments)))
    ≡ Call (name 0 (codes "pvPut")) true false true true None ∷ Use Ignored (name 6 (codes "x")) Nothing false ∷ Use Ignored (name 10 (codes "ASYNC")) Nothing false ∷ [])
    × (in_expression false bare Read (call (name 0 (codes "pvPutComplete")) (value (use_of 14 (codes "x")) no_arguments))
    ≡ Call (name 0 (codes "pvPutComplete")) true true true true None ∷ Use Channel (name 14 (codes "x")) Nothing false ∷ [])
