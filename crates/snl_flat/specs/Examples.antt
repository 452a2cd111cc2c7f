-- Examples: what is known of two functions, their code and their entries, and how deep and how long they are, computed.
use Rattle.std.specs.Prelude.{◌≡◌, ℕ, pos, negsuc, true, false, [], ◌∷◌, map, Some, codes}
use Rattle.snl_text.specs.declared.kinds.Kind.TheVariants as kind
use Rattle.snl_syntax.specs.Expressions.{named}
use Rattle.snl_syntax.specs.Programs.{ProgramTree}
use Rattle.snl_syntax.specs.Statements.{expression, return_with, no_statements, statement, block}
use Rattle.snl_resolve.specs.Examples.{name, sign}
use Rattle.snl_resolve.specs.FunctionExamples.{of_names, of_one, call_by_one, defining}
use Rattle.snl_meaning.specs.declared.instrs.Instr.TheVariants.{Push, Load, Drop, Call, Fit, Return}
use Rattle.snl_meaning.specs.declared.instrs.Variable.{Variable}
use Rattle.snl_meaning.specs.Functions.{Routine}
use Rattle.snl_meaning.specs.Names.{Body}
use Rattle.snl_flat.specs.Depths.{program_depth}
use Rattle.snl_flat.specs.Heres.{entries_in, outlines_in, routines_in}
use Rattle.snl_flat.specs.Layout.{routines_code}
use Rattle.snl_flat.specs.Size.{program_size}

-- `int f(char n) { return n; }`, and below it `void g(char n, char m) { f(1); }`
abbrev pub two : ProgramTree
two =
    defining (of_one (name 5 (codes "f")) true (return_with (sign kind.Return) (Some (named (name 9 (codes "n")))))
    ∷ of_names (name 15 (codes "g")) false (name 17 (codes "n") ∷ name 19 (codes "m") ∷ []) (block [] (statement (expression (call_by_one (name 21 (codes "f")))) no_statements)) ∷ [])

-- a parameter of type `char`, by its place among the words that all state sets share
abbrev pub parameter : ℕ → Variable
parameter place = record { place = place; size = 1; least = negsuc 127; greatest = pos 127; is_shared = true }

-- Parameters stand one after another among the shared words. The value of `f` is checked; one of `g` would be a `long`. `f` begins at 0, and `g` behind it; each
-- gives 0 at its end. A call needs as much room as its value and its body do, here 1. The program and its name count 16; `f` 8, its name, 16 for its parameter, and its
-- body 24; `g` 8, its name, 32 for its parameters, and its body 8 for the block, 8 for the statement, 16 for the call and 2 for the constant.
abbrev pub FunctionExamples : Type 0
FunctionExamples =
    (map (λ (r : Routine). r.parameters) (routines_in two) ≡ (parameter 0 ∷ []) ∷ (parameter 1 ∷ parameter 2 ∷ []) ∷ [])
    × (map (λ (r : Routine). r.here.within) (routines_in two)
    ≡ Body (negsuc 2147483647) (pos 2147483647) ∷ Body (negsuc 9223372036854775807) (pos 9223372036854775807) ∷ [])
    × (routines_code two
    ≡ Load (parameter 0) ∷ Fit (negsuc 2147483647) (pos 2147483647) 1 ∷ Return ∷ Push (pos 0) ∷ Return ∷ Push (pos 1) ∷ Call 0 1 1 ∷ Drop ∷ Push (pos 0) ∷ Return ∷ [])
    × (entries_in two ≡ record { start = 0; parameters = parameter 0 ∷ [] } ∷ record { start = 5; parameters = parameter 1 ∷ parameter 2 ∷ [] } ∷ [])
    × (outlines_in two ≡ record { name = codes "f"; depth = 1 } ∷ record { name = codes "g"; depth = 1 } ∷ [])
    × (program_depth two ≡ 1)
    × (program_size (λ set state. false) two ≡ 154)
