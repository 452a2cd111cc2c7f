-- Examples: the rules that are told of functions and their calls, and the words that functions take, computed.
use Rattle.std.specs.Prelude.{◌≡◌, true, false, [], ◌∷◌, Some, codes}
use Rattle.snl_syntax.specs.Statements.{empty, no_statements, block}
use Rattle.snl_resolve.specs.FunctionExamples.{of_one, of_names, defining}
use Rattle.snl_resolve.specs.Examples as tokens
use Rattle.snl_names.specs.declared.sites.Meaning.TheVariants.{Number, Nothing}
use Rattle.snl_names.specs.declared.sites.Purpose.TheVariants.{Dropped}
use Rattle.snl_names.specs.declared.sites.Site.{Site}
use Rattle.snl_names.specs.declared.sites.Site.TheVariants.{Call, Function, Return}
use Rattle.snl_rules.specs.declared.rules.Rule.TheVariants as r
use Rattle.snl_rules.specs.Examples.{at, name, array, named_for, rules_in, copies, after}
use Rattle.snl_rules.specs.Words.{function_words}

-- a function at 4
abbrev pub a_function : Site
a_function = Function (name 4) false

-- ---- W8, also where the name is taken, which is E14; E17 and E34 of one call; E35; what is a whole statement is read; 256 functions, and one more
abbrev pub FunctionExamples : Type 0
FunctionExamples =
    (rules_in (a_function ∷ []) ≡ r.UnusedFunction ∷ [])
    × (rules_in (a_function ∷ Call (name 9) true true true true (Some (at 4)) ∷ []) ≡ [])
    × (rules_in (Function (name 4) true ∷ []) ≡ r.DeclaredTwice ∷ r.UnusedFunction ∷ [])
    × (rules_in (Call (name 9) true false true false (Some (at 4)) ∷ []) ≡ r.WrongArguments ∷ r.NoValue ∷ [])
    × (rules_in (Return (name 9) false ∷ Return (name 9) true ∷ []) ≡ r.ReturnElsewhere ∷ [])
    × (rules_in (named_for Dropped Number true ∷ named_for Dropped array false ∷ named_for Dropped Nothing false ∷ []) ≡ r.WrongArray ∷ r.WrongArray ∷ r.Undeclared ∷ [])
    × (after (copies 255 a_function) a_function ≡ r.UnusedFunction ∷ [])
    × (after (copies 256 a_function) a_function ≡ r.UnusedFunction ∷ r.TooManyFunctions ∷ [])
    × (after (copies 257 a_function) a_function ≡ r.UnusedFunction ∷ [])

-- ---- `void f(char n) { ; }` and `void g(char n, char m) {}`: three parameters, and two places to return to
abbrev pub FunctionWords : Type 0
FunctionWords =
    function_words (defining (of_one (tokens.name 5 (codes "f")) false empty
    ∷ of_names (tokens.name 15 (codes "g")) false (tokens.name 17 (codes "n") ∷ tokens.name 19 (codes "m") ∷ []) (block [] no_statements) ∷ [])) ≡ 5
