-- Examples: the sites of functions, of their calls and of `return`, and the variables of functions, computed.
use Rattle.std.specs.Prelude.{◌≡◌, ℕ, pos, negsuc, Bool, true, false, List, [], ◌∷◌, map, Some, None, codes, if◌then◌else◌}
use Rattle.snl_text.specs.declared.tokens.Pos.{Pos}
use Rattle.snl_text.specs.declared.tokens.Token.{Token}
use Rattle.snl_text.specs.declared.kinds.Kind.TheVariants as kind
use Rattle.snl_syntax.specs.Expressions.{ExprTree, parenthesized, prefix, call, no_arguments, value, text}
use Rattle.snl_syntax.specs.Statements.{StatementTree, BlockTree, empty, change_state, expression, return_with, no_statements, statement, block}
use Rattle.snl_syntax.specs.Definitions.{DefinitionTree, function}
use Rattle.snl_syntax.specs.Programs.{ProgramTree}
use Rattle.snl_names.specs.declared.calls.Heading.{Heading}
use Rattle.snl_names.specs.declared.sites.Purpose.TheVariants.{Read}
use Rattle.snl_names.specs.declared.sites.Room.TheVariants as room
use Rattle.snl_names.specs.declared.sites.Site.{Site}
use Rattle.snl_names.specs.declared.sites.Site.TheVariants.{Declaration, Typed, Declarator, Call, Format, StateChange, Target, Function, Return}
use Rattle.snl_names.specs.declared.sites.Size.TheVariants.{Scalar}
use Rattle.snl_resolve.specs.Examples.{token, name, sign, whole, bare}
use Rattle.snl_names.specs.Programs.{sites}
use Rattle.snl_names.specs.Sights.{Sight}
use Rattle.snl_names.specs.Sites.{in_expression, in_statement}
use Rattle.snl_names.specs.Variables.{CopyVariable, shared_variables}

-- a function with parameters of type `char`, of type `int` or without a value
abbrev pub of_names : Token → Bool → List Token → BlockTree → DefinitionTree
of_names t has_type names body = function (record {
  type_name = if has_type then Some (record { word = sign kind.Int; second = None }) else None;
  name = t;
  parameters = record { void = false; each = map (λ n. record { type_name = record { word = sign kind.Char; second = None }; name = n }) names };
  body = body;
})

-- the same of one parameter `n`, with a body of one statement
abbrev pub of_one : Token → Bool → StatementTree → DefinitionTree
of_one t has_type s = of_names t has_type (name 1 (codes "n") ∷ []) (block [] (statement s no_statements))

-- `NAME(1)`
abbrev pub call_by_one : Token → ExprTree
call_by_one t = call t (value (whole (codes "1")) no_arguments)

-- a program of some definitions
abbrev pub defining : List DefinitionTree → ProgramTree
defining ds = record {
  word = sign kind.Program;
  name = name 0 (codes "p");
  macros = None;
  definitions = ds;
  entry = None;
  state_sets = [];
  exit = None;
}

-- a place on the first line
abbrev pub place : ℕ → Pos
place offset = record { offset = offset; file = 0; line = 1 }

-- the site of a parameter's type
abbrev pub char_type : Site
char_type = Typed (sign kind.Char) None true

-- `void f(char n) { f(1); }  int g(char n) { return f(1); }`: `f` does not see itself, and `g` sees `f`, which has no value. `int delay(char n) { return; }`: the name is
-- taken, and a value is missing. `void f(char n, char n) { int n; }`: the second parameter is declared twice, and the body is a scope of its own. In a function no state
-- is changed.
abbrev pub FunctionExamples : Type 0
FunctionExamples =
    (sites (defining (of_one (name 5 (codes "f")) false (expression (call_by_one (name 9 (codes "f"))))
    ∷ of_one (name 15 (codes "g")) true (return_with (sign kind.Return) (Some (call_by_one (name 19 (codes "f"))))) ∷ []))
    ≡ Function (name 5 (codes "f")) false ∷ Declaration (name 1 (codes "n")) false false 1 ∷ char_type ∷ Call (name 9 (codes "f")) false true true true None
    ∷ Function (name 15 (codes "g")) false ∷ Typed (sign kind.Int) None true ∷ Declaration (name 1 (codes "n")) false false 1 ∷ char_type ∷ Return (sign kind.Return) true
    ∷ Call (name 19 (codes "f")) true true true false (Some (place 5)) ∷ [])
    × (sites (defining (of_one (name 5 (codes "delay")) true (return_with (sign kind.Return) None) ∷ []))
    ≡ Function (name 5 (codes "delay")) true ∷ Typed (sign kind.Int) None true ∷ Declaration (name 1 (codes "n")) false false 1 ∷ char_type ∷ Return (sign kind.Return) false ∷ [])
    × (sites (defining (of_names (name 5 (codes "f")) false (name 7 (codes "n") ∷ name 9 (codes "n") ∷ [])
    (block (record { type_name = record { word = sign kind.Int; second = None }; names = record { name = name 15 (codes "n"); sizes = []; initial = None } ∷ [] } ∷ []) no_statements) ∷ []))
    ≡ Function (name 5 (codes "f")) false ∷ Declaration (name 7 (codes "n")) false false 1 ∷ Declaration (name 9 (codes "n")) false true 1 ∷ char_type ∷ char_type
    ∷ Declaration (name 15 (codes "n")) false false 1 ∷ Typed (sign kind.Int) None true ∷ Declarator (name 15 (codes "n")) Scalar true ∷ [])
    × (in_statement (room.Function false) [] bare false (change_state (sign kind.State) (name 7 (codes "s"))) ≡ StateChange (sign kind.State) false ∷ Target (name 7 (codes "s")) None false ∷ [])

-- what calls see of a function at an offset
abbrev pub heading : ℕ → List ℕ → ℕ → Bool → Heading
heading offset bytes count valued = record { name = name offset bytes; parameters = count; has_value = valued }

-- `void f(char n)`, then `int g(char n, char m)` and a second `f`, with two parameters
abbrev pub three : Sight
three = record { scopes = []; functions = heading 1 (codes "f") 1 false ∷ heading 2 (codes "g") 2 true ∷ heading 3 (codes "f") 2 true ∷ [] }

-- `f(1);`, `(f(1));`, `-f(1);`: only as a whole statement a call needs no value, and the first `f` is meant. `g(1)`: an argument is missing. `f("")`: a string is no value,
-- and `f` has none. `foo(f(1))`: in a call of an unknown function nothing is asked, and `f` is used. `return f(1);` in a function without a value, and `return;` outside of
-- functions.
abbrev pub CallExamples : Type 0
CallExamples =
    (in_statement room.Clause [] three false (expression (call_by_one (name 9 (codes "f")))) ≡ Call (name 9 (codes "f")) true true true true (Some (place 1)) ∷ [])
    × (in_statement room.Clause [] three false (expression (parenthesized (call_by_one (name 9 (codes "f"))))) ≡ Call (name 9 (codes "f")) true true true false (Some (place 1)) ∷ [])
    × (in_statement room.Clause [] three false (expression (prefix (sign kind.Minus) (call_by_one (name 9 (codes "f"))))) ≡ Call (name 9 (codes "f")) true true true false (Some (place 1)) ∷ [])
    × (in_expression false three Read (call_by_one (name 9 (codes "g"))) ≡ Call (name 9 (codes "g")) true false true true (Some (place 2)) ∷ [])
    × (in_expression false three Read (call (name 9 (codes "f")) (text (token kind.Text 11 (codes "\"\"")) no_arguments))
    ≡ Call (name 9 (codes "f")) true false true false (Some (place 1)) ∷ Format (token kind.Text 11 (codes "\"\"")) true ∷ [])
    × (in_expression false three Read (call (name 9 (codes "foo")) (value (call_by_one (name 13 (codes "f"))) no_arguments))
    ≡ Call (name 9 (codes "foo")) false true true true None ∷ Call (name 13 (codes "f")) true true true true (Some (place 1)) ∷ [])
    × (in_statement (room.Function false) [] three false (return_with (sign kind.Return) (Some (call_by_one (name 9 (codes "f")))))
    ≡ Return (sign kind.Return) false ∷ Call (name 9 (codes "f")) true true true false (Some (place 1)) ∷ [])
    × (in_statement room.Elsewhere [] three false (return_with (sign kind.Return) None) ≡ Return (sign kind.Return) false ∷ [])

-- a variable of type `char`
abbrev pub char_variable : Token → CopyVariable
char_variable t = record { name = t; range = (negsuc 127, pos 127); size = Scalar; initial = None }

-- `void f(char n) { ; }` and `void g(char n, char m) {}`: their parameters are variables, which all state sets share
abbrev pub SharedExamples : Type 0
SharedExamples =
    shared_variables (defining (of_one (name 5 (codes "f")) false empty ∷ of_names (name 15 (codes "g")) false (name 17 (codes "n") ∷ name 19 (codes "m") ∷ []) (block [] no_statements) ∷ []))
    ≡ char_variable (name 1 (codes "n")) ∷ char_variable (name 17 (codes "n")) ∷ char_variable (name 19 (codes "m")) ∷ []
