-- What a piece of a program may name: numbers, variables of copies, and of the variables of functions its own.
use Rattle.std.specs.Prelude.{◌≡◌, ◌⊎◌, ◌<◌, ◌-◌, ◌++◌, ℕ, suc, Bool, true, false, List, [], ◌∷◌, Option, None, Some, length}
use Rattle.snl_syntax.specs.Expressions.{ExprTree, TermList, ArgumentList, constant, parenthesized, named, element, call, postfix, prefix, chain, conditional, assignment, no_terms, term, no_arguments, value, text}
use Rattle.snl_syntax.specs.Declarations.{DeclaratorTree}
use Rattle.snl_syntax.specs.Statements.{StatementTree, StatementList, BlockTree, nested, empty, expression, break_loop, continue_loop, change_state, return_with, if_then, if_else, while_loop, for_loop, no_statements, statement, block}
use Rattle.snl_names.specs.declared.builtins.Builtin.{Builtin}
use Rattle.snl_names.specs.Builtins.{builtin_of}
use Rattle.snl_names.specs.Calls.{is_word, word_at}
use Rattle.snl_meaning.specs.declared.instrs.Variable.{Variable}
use Rattle.snl_meaning.specs.declared.names.Sense.{Sense}
use Rattle.snl_meaning.specs.declared.names.Sense.TheVariants.{Varies, Stands}
use Rattle.snl_meaning.specs.Effect.{names_of, values_of, variable_for}
use Rattle.snl_meaning.specs.Functions.{Routine, callable_of, inside}
use Rattle.snl_meaning.specs.Names.{Here, sense_of}
use Rattle.snl_meaning.specs.Scenes.{Callable, Scene, callee_named}

-- ---- names and calls

-- A name stands for a number, for a variable of a copy, or for a variable of functions that is one of its own.
abbrev pub MeansOwn : (Own : Variable → Type 0) → Sense → Type 0
MeansOwn Own (Stands z) = Unit {0}
MeansOwn Own (Varies v) = (v.is_shared ≡ false) ⊎ (Own v × (0 < v.size))

-- How many values arguments have.
abbrev pub values_in : ArgumentList → ℕ
values_in no_arguments = 0
values_in (text t rest) = values_in rest
values_in (value e rest) = suc (values_in rest)

-- A call of a function of the program has a value for each parameter.
abbrev pub IsFull : Option Builtin → Option Callable → ArgumentList → Type 0
IsFull (Some b) o all = Unit {0}
IsFull None None all = Unit {0}
IsFull None (Some c) all = values_in all ≡ length c.parameters

-- What is asked of an argument, unless it is the word `ASYNC`, which is no name there.
abbrev pub OrWord : Bool → Type 0 → Type 0
OrWord true Asked = Unit {0}
OrWord false Asked = Asked

-- ---- expressions

abbrev mutual
  -- in an expression
  pub OwnIn : Scene → (Own : Variable → Type 0) → ExprTree → Type 0
  OwnIn m Own (constant t) = Unit {0}
  OwnIn m Own (parenthesized e) = OwnIn m Own e
  OwnIn m Own (named x) = MeansOwn Own (sense_of m.here x)
  OwnIn m Own (element x b e) = MeansOwn Own (sense_of m.here x) × OwnIn m Own e
  OwnIn m Own (call f all) = IsFull (builtin_of f.text.now) (callee_named m.callees f.text.now) all × OwnAmong m Own (word_at (builtin_of f.text.now)) all
  OwnIn m Own (postfix e op) = OwnIn m Own e
  OwnIn m Own (prefix op e) = OwnIn m Own e
  OwnIn m Own (chain e rest) = OwnIn m Own e × OwnBehind m Own rest
  OwnIn m Own (conditional c a b) = OwnIn m Own c × OwnIn m Own a × OwnIn m Own b
  OwnIn m Own (assignment e op r) = OwnIn m Own e × OwnIn m Own r

  -- in the operands of one level
  pub OwnBehind : Scene → (Own : Variable → Type 0) → TermList → Type 0
  OwnBehind m Own no_terms = Unit {0}
  OwnBehind m Own (term op e rest) = OwnIn m Own e × OwnBehind m Own rest

  -- in arguments, so many up to the one that may be the word `ASYNC`
  pub OwnAmong : Scene → (Own : Variable → Type 0) → ℕ → ArgumentList → Type 0
  OwnAmong m Own k no_arguments = Unit {0}
  OwnAmong m Own k (text t rest) = OwnAmong m Own (k - 1) rest
  OwnAmong m Own k (value e rest) = OrWord (is_word k e) (OwnIn m Own e) × OwnAmong m Own (k - 1) rest

-- in an expression that may be missing
abbrev pub OwnMaybe : Scene → (Own : Variable → Type 0) → Option ExprTree → Type 0
OwnMaybe m Own None = Unit {0}
OwnMaybe m Own (Some e) = OwnIn m Own e

-- in some expressions
abbrev pub OwnEach : Scene → (Own : Variable → Type 0) → List ExprTree → Type 0
OwnEach m Own [] = Unit {0}
OwnEach m Own (e ∷ es) = OwnIn m Own e × OwnEach m Own es

-- in what variables begin with
abbrev pub OwnInNames : Scene → (Own : Variable → Type 0) → List DeclaratorTree → Type 0
OwnInNames m Own [] = Unit {0}
OwnInNames m Own (d ∷ ds) = OwnEach m Own (values_of d.initial) × OwnInNames m Own ds

-- ---- statements

-- A variable is that of one of some declared names.
abbrev pub IsDeclared : Here → List DeclaratorTree → Variable → Type 0
IsDeclared h [] v = ⊥
IsDeclared h (d ∷ ds) v = (variable_for h d ≡ Some v) ⊎ IsDeclared h ds v

-- In a block those that it declares are its own, too.
abbrev pub OwnWithin : Here → List DeclaratorTree → (Own : Variable → Type 0) → Variable → Type 0
OwnWithin h ds Own v = IsDeclared h ds v ⊎ Own v

abbrev mutual
  -- in a statement
  pub OwnAt : Scene → (Own : Variable → Type 0) → StatementTree → Type 0
  OwnAt m Own (nested b) = OwnInBlock m Own b
  OwnAt m Own empty = Unit {0}
  OwnAt m Own (expression e) = OwnIn m Own e
  OwnAt m Own (break_loop t) = Unit {0}
  OwnAt m Own (continue_loop t) = Unit {0}
  OwnAt m Own (change_state t x) = Unit {0}
  OwnAt m Own (return_with t o) = OwnMaybe m Own o
  OwnAt m Own (if_then c s) = OwnIn m Own c × OwnAt m Own s
  OwnAt m Own (if_else c s e) = OwnIn m Own c × OwnAt m Own s × OwnAt m Own e
  OwnAt m Own (while_loop t c s) = OwnIn m Own c × OwnAt m Own s
  OwnAt m Own (for_loop t parts s) = OwnMaybe m Own parts.start × OwnMaybe m Own parts.condition × OwnMaybe m Own parts.step × OwnAt m Own s

  -- in statements
  pub OwnInAll : Scene → (Own : Variable → Type 0) → StatementList → Type 0
  OwnInAll m Own no_statements = Unit {0}
  OwnInAll m Own (statement s rest) = OwnAt m Own s × OwnInAll m Own rest

  -- in a block
  pub OwnInBlock : Scene → (Own : Variable → Type 0) → BlockTree → Type 0
  OwnInBlock m Own (block ds all) = OwnInNames m (OwnWithin m.here (names_of ds) Own) (names_of ds) × OwnInAll m (OwnWithin m.here (names_of ds) Own) all

-- ---- functions

-- A variable is one of some parameters.
abbrev pub IsParameter : List Variable → Variable → Type 0
IsParameter [] v = ⊥
IsParameter (p ∷ ps) v = (p ≡ v) ⊎ IsParameter ps v

-- Each parameter has one element.
abbrev pub AreSingle : List Variable → Type 0
AreSingle [] = Unit {0}
AreSingle (p ∷ ps) = (p.size ≡ 1) × AreSingle ps

-- In the bodies of functions, each below those that it may call: its parameters are its own.
abbrev pub OwnInBodies : (set : ℕ) (name : List ℕ) → List Callable → List Routine → Type 0
OwnInBodies set name above [] = Unit {0}
OwnInBodies set name above (r ∷ rs) =
    (AreSingle r.parameters × OwnInBlock (inside set name above r) (IsParameter r.parameters) r.body) × OwnInBodies set name (above ++ callable_of set name above r ∷ []) rs
