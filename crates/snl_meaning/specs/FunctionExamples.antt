-- Small functions, and what their calls do in a world.
use Rattle.std.specs.Prelude.{◌≡◌, ℕ, ℤ, pos, negsuc, true, false, List, [], ◌∷◌, codes, None, Some, map}
use Rattle.snl_text.specs.declared.kinds.Kind.TheVariants as kind
use Rattle.snl_text.specs.declared.tokens.Token.{Token}
use Rattle.snl_syntax.specs.Expressions.{ExprTree, ArgumentList, named, call, assignment, no_arguments, value}
use Rattle.snl_syntax.specs.Declarations.{DeclarationTree}
use Rattle.snl_syntax.specs.Statements.{StatementTree, BlockTree, empty, expression, return_with, while_loop, block}
use Rattle.snl_names.specs.declared.sites.Meaning.TheVariants as meaning
use Rattle.snl_names.specs.declared.sites.Purpose.TheVariants.{Read}
use Rattle.snl_names.specs.declared.sites.Site.{Site}
use Rattle.snl_names.specs.declared.sites.Site.TheVariants.{Use}
use Rattle.snl_names.specs.declared.sites.Size.TheVariants.{Scalar}
use Rattle.snl_meaning.specs.declared.faults.Fault.TheVariants.{DoesNotFit, BudgetSpent}
use Rattle.snl_meaning.specs.declared.instrs.Variable.{Variable}
use Rattle.snl_meaning.specs.declared.names.Placed.{Placed}
use Rattle.snl_meaning.specs.Examples.{token, whole, sign, x, here, scene, world, binary, increased, in_row}
use Rattle.snl_meaning.specs.Functions.{Routine, callables_after}
use Rattle.snl_meaning.specs.Names.{Here, Body}
use Rattle.snl_meaning.specs.Ran.{Gives, Faults}
use Rattle.snl_meaning.specs.Scenes.{Scene}
use Rattle.snl_meaning.specs.Value.{value_of}
use Rattle.snl_meaning.specs.World.{World}

-- ---- names

-- the use of a variable
abbrev pub use_of : ℕ → List ℕ → Token
use_of offset name = token kind.Name offset 20 name

-- `int n` of `step`, declared at 40; `int m` of its block, at 41; `int a` and `char b` of `minus`, at 42 and 43; `int p` of `outer`, at 44
abbrev pub n : Token
n = use_of 50 (codes "n")

-- the use of `m`
abbrev pub m : Token
m = use_of 51 (codes "m")

-- the use of `a`
abbrev pub a : Token
a = use_of 52 (codes "a")

-- the use of `b`
abbrev pub b : Token
b = use_of 53 (codes "b")

-- the use of `p`
abbrev pub p : Token
p = use_of 54 (codes "p")

-- what a use means
abbrev pub means : Token → ℕ → Site
means t offset = Use Read t (meaning.Variable (record { offset = offset; file = 0; line = 1 }) Scalar) false

-- an `int` or a `char` among the words that all state sets share
abbrev pub int_at : ℕ → Variable
int_at place = record { place = place; size = 1; least = negsuc 2147483647; greatest = pos 2147483647; is_shared = true }

-- the same of a `char`
abbrev pub char_at : ℕ → Variable
char_at place = record { place = place; size = 1; least = negsuc 127; greatest = pos 127; is_shared = true }

-- a variable, by its declaration
abbrev pub at : ℕ → Variable → Placed
at offset v = record { offset = offset; variable = v }

-- what is known in a body whose values fit a type
abbrev pub known : (least greatest : ℤ) → Here
known least greatest = record {
  states = [];
  sites = means n 40 ∷ means m 41 ∷ means a 42 ∷ means b 43 ∷ means p 44 ∷ here.sites;
  variables = at 40 (int_at 0) ∷ at 41 (int_at 1) ∷ at 42 (int_at 2) ∷ at 43 (char_at 3) ∷ at 44 (int_at 4) ∷ here.variables;
  within = Body least greatest;
  functions = [];
}

-- in one of an `int`
abbrev pub in_int : Here
in_int = known (negsuc 2147483647) (pos 2147483647)

-- in one of a `char`
abbrev pub in_char : Here
in_char = known (negsuc 127) (pos 127)

-- ---- functions

-- the arguments of a call
abbrev pub arguments : List ExprTree → ArgumentList
arguments [] = no_arguments
arguments (e ∷ es) = value e (arguments es)

-- a call, in line 9
abbrev pub call_of : List ℕ → List ExprTree → ExprTree
call_of name es = call (token kind.Name 100 9 name) (arguments es)

-- `return EXPRESSION;`, in line 22
abbrev pub gives_back : ExprTree → StatementTree
gives_back e = return_with (token kind.Return 100 22 []) (Some e)

-- `while (1) STATEMENT`, in line 21
abbrev pub forever : StatementTree → StatementTree
forever s = while_loop (token kind.While 100 21 []) (whole (codes "1")) s

-- a function
abbrev pub function : List ℕ → List Variable → Here → BlockTree → Routine
function name parameters h body = record { name = token kind.Name 60 20 name; parameters = parameters; here = h; body = body }

-- a body without variables
abbrev pub body_of : List StatementTree → BlockTree
body_of ss = block [] (in_row ss)

-- `int m;`
abbrev pub int_m : DeclarationTree
int_m = record {
  type_name = record { word = sign kind.Int; second = None };
  names = record { name = token kind.Name 41 20 (codes "m"); sizes = []; initial = None } ∷ [];
}

-- `int step(int n) { int m; m += n; return m; }`, `int minus(int a, char b) { return a - b; }`, `char narrow() { return 200; }`,
-- `void spin() { while (1); }`, `void quiet() {}`, `int deep() { while (1) while (1) return 7; }`, `int early() { return outer(4); }`,
-- and `int outer(int p) { return step(p) + 1; }`
abbrev pub functions : List Routine
functions =
    function (codes "step") (int_at 0 ∷ []) in_int (block (int_m ∷ []) (in_row (expression (assignment (named m) (sign kind.PlusEqual) (named n)) ∷ gives_back (named m) ∷ [])))
    ∷ function (codes "minus") (int_at 2 ∷ char_at 3 ∷ []) in_int (body_of (gives_back (binary kind.Minus (named a) (named b)) ∷ []))
    ∷ function (codes "narrow") [] in_char (body_of (gives_back (whole (codes "200")) ∷ []))
    ∷ function (codes "spin") [] in_int (body_of (forever empty ∷ []))
    ∷ function (codes "quiet") [] in_int (body_of [])
    ∷ function (codes "deep") [] in_int (body_of (forever (forever (gives_back (whole (codes "7")))) ∷ []))
    ∷ function (codes "early") [] in_int (body_of (gives_back (call_of (codes "outer") (whole (codes "4") ∷ [])) ∷ []))
    ∷ function (codes "outer") (int_at 4 ∷ []) in_int (body_of (gives_back (binary kind.Plus (call_of (codes "step") (named p ∷ [])) (whole (codes "1"))) ∷ []))
    ∷ []

-- a piece below them
abbrev pub below : Scene
below = record scene {
  here = record here { functions = map (λ (r : Routine). r.name) functions };
  callees = callables_after scene.set scene.set_name [] functions;
}

-- `x`, the words of `n`, `m`, `a`, `b` and `p`, and how many ticks are left
abbrev pub sharing : ℤ → List ℤ → ℕ → World
sharing first shared ticks = record (world first (pos 9) ticks None) { shared = shared }

-- before the calls: something stands in the words of functions
abbrev pub before : World
before = sharing (pos 0) (pos 8 ∷ pos 8 ∷ pos 8 ∷ pos 8 ∷ pos 8 ∷ []) 3

-- ---- calls

-- `step(2) + step(3)`: the variable begins at 0 each time; `minus(x++, x)`: arguments and parameters in order; `minus(5, 200)`: the
-- second parameter does not fit, in the line of the call; `narrow()`: the value does not fit, in the line of `return`;
-- `step(x++)` where no tick is left: the argument has its value, and then the call faults; `spin()`, whose loop spends the ticks;
-- `quiet()`, without a `return`; `deep()`, out of two loops; `other(x++)`, of which there is none; `outer(4)`, which calls `step`;
-- `early()`, which may not call what stands below it
abbrev pub FunctionExamples : Type 0
FunctionExamples =
    (value_of below (binary kind.Plus (call_of (codes "step") (whole (codes "2") ∷ [])) (call_of (codes "step") (whole (codes "3") ∷ []))) before
    ≡ Gives (pos 5) (sharing (pos 0) (pos 3 ∷ pos 3 ∷ pos 8 ∷ pos 8 ∷ pos 8 ∷ []) 1) [])
    × (value_of below (call_of (codes "minus") (increased x ∷ named x ∷ [])) before ≡ Gives (negsuc 0) (sharing (pos 1) (pos 8 ∷ pos 8 ∷ pos 0 ∷ pos 1 ∷ pos 8 ∷ []) 2) [])
    × (value_of below (call_of (codes "minus") (whole (codes "5") ∷ whole (codes "200") ∷ [])) before
    ≡ Faults DoesNotFit 9 (sharing (pos 0) (pos 8 ∷ pos 8 ∷ pos 5 ∷ pos 8 ∷ pos 8 ∷ []) 2) [])
    × (value_of below (call_of (codes "narrow") []) before ≡ Faults DoesNotFit 22 (sharing (pos 0) before.shared 2) [])
    × (value_of below (call_of (codes "step") (increased x ∷ [])) (sharing (pos 0) before.shared 0) ≡ Faults BudgetSpent 9 (sharing (pos 1) before.shared 0) [])
    × (value_of below (call_of (codes "spin") []) before ≡ Faults BudgetSpent 21 (sharing (pos 0) before.shared 0) [])
    × (value_of below (call_of (codes "quiet") []) before ≡ Gives (pos 0) (sharing (pos 0) before.shared 2) [])
    × (value_of below (call_of (codes "deep") []) before ≡ Gives (pos 7) (sharing (pos 0) before.shared 0) [])
    × (value_of below (call_of (codes "other") (increased x ∷ [])) before ≡ Gives (pos 0) before [])
    × (value_of below (call_of (codes "outer") (whole (codes "4") ∷ [])) before ≡ Gives (pos 5) (sharing (pos 0) (pos 4 ∷ pos 4 ∷ pos 8 ∷ pos 8 ∷ pos 4 ∷ []) 1) [])
    × (value_of below (call_of (codes "early") []) before ≡ Gives (pos 0) (sharing (pos 0) before.shared 2) [])
