-- The code of small functions and of calls, and what it does.
use Rattle.std.specs.Prelude.{◌≡◌, ◌++◌, ℕ, pos, negsuc, true, false, List, [], ◌∷◌, codes, map, take, drop, length}
use Rattle.snl_text.specs.declared.kinds.Kind.TheVariants as kind
use Rattle.snl_syntax.specs.Expressions.{ExprTree, named}
use Rattle.snl_syntax.specs.Statements.{change_state}
use Rattle.snl_meaning.specs.declared.instrs.Instr.{Instr}
use Rattle.snl_meaning.specs.declared.instrs.Instr.TheVariants.{Push, Load, Adjust, Apply, ApplyNumber, Clear, Assign, Call, Fit, Return}
use Rattle.snl_meaning.specs.declared.instrs.Variable.{Variable}
use Rattle.snl_meaning.specs.Examples.{token, whole, x, increased}
use Rattle.snl_meaning.specs.FunctionExamples.{functions, below, before, sharing, in_int, int_at, call_of, gives_back}
use Rattle.snl_meaning.specs.Names.{Outline}
use Rattle.snl_meaning.specs.Ran.{Gives}
use Rattle.snl_meaning.specs.Run.{Entry, Over, Stuck, context_of, run_of}
use Rattle.snl_emit.specs.BlockCode.{statement_code, condition_piece}
use Rattle.snl_emit.specs.Depths.{expression_depth, outlines_after}
use Rattle.snl_emit.specs.ExpressionCode.{expression_code}
use Rattle.snl_emit.specs.FunctionCode.{entries_from, functions_code}

-- the code of the functions of the examples of the meaning
abbrev pub code : List Instr
code = functions_code [] functions

-- where each begins
abbrev pub entries : List Entry
entries = entries_from 0 [] functions

-- so many instructions of it, from an address on
abbrev pub part : ℕ → ℕ → List Instr
part start count = take count (drop start code)

-- the variable `x`, in line 8
abbrev pub first : Variable
first = record { place = 0; size = 1; least = negsuc 2147483647; greatest = pos 2147483647; is_shared = false }

-- the check of an `int` that a function gives, in line 22
abbrev pub fit : Instr
fit = Fit (negsuc 2147483647) (pos 2147483647) 22

-- `outer(4)`
abbrev pub outer : ExprTree
outer = call_of (codes "outer") (whole (codes "4") ∷ [])

-- The code of `step`, whose variable begins at 0; of `narrow`, a `char`; of `quiet`, without a `return`; of `early`, which may not call what
-- stands below it; and of `outer`, which calls `step`, the function number 0. Each begins behind the one before it.
abbrev pub FunctionCodeExamples : Type 0
FunctionCodeExamples =
    (part 0 10 ≡ Clear (int_at 1) ∷ Load (int_at 1) ∷ Load (int_at 0) ∷ Apply kind.Plus 7 ∷ Assign (int_at 1) 0 20 ∷ Load (int_at 1) ∷ fit ∷ Return ∷ Push (pos 0) ∷ Return ∷ [])
    × (part 17 5 ≡ Push (pos 200) ∷ Fit (negsuc 127) (pos 127) 22 ∷ Return ∷ Push (pos 0) ∷ Return ∷ [])
    × (part 28 2 ≡ Push (pos 0) ∷ Return ∷ [])
    × (part 43 5 ≡ Push (pos 0) ∷ fit ∷ Return ∷ Push (pos 0) ∷ Return ∷ [])
    × (part 48 7 ≡ Load (int_at 4) ∷ Call 0 1 9 ∷ ApplyNumber kind.Plus (pos 1) 7 ∷ fit ∷ Return ∷ Push (pos 0) ∷ Return ∷ [])
    × (length code ≡ 55)
    × (map (λ (e : Entry). e.start) entries ≡ 0 ∷ 10 ∷ 17 ∷ 22 ∷ 28 ∷ 30 ∷ 43 ∷ 48 ∷ [])

-- `minus(x++, x)`: the values, and then the call with two of them; a call of no function: its arguments have no code. A `state` has no code
-- in a function, nor has a `return` outside of one. How much room each body needs, and a call of `outer`. With that room the code of the
-- call gives 5, as it means, and spends two ticks; with less it would stick.
abbrev pub CallCodeExamples : Type 0
CallCodeExamples =
    (expression_code below.here (call_of (codes "minus") (increased x ∷ named x ∷ [])) ≡ Adjust first kind.Plus 7 8 true ∷ Load first ∷ Call 1 2 9 ∷ [])
    × (expression_code below.here (call_of (codes "other") (increased x ∷ [])) ≡ Push (pos 0) ∷ [])
    × (statement_code in_int 0 0 (change_state (token kind.State 100 1 []) x) ≡ [])
    × (statement_code below.here 0 0 (gives_back (named x)) ≡ [])
    × (map (λ (o : Outline). o.depth) (outlines_after [] functions) ≡ 2 ∷ 2 ∷ 1 ∷ 1 ∷ 0 ∷ 1 ∷ 1 ∷ 2 ∷ [])
    × (expression_depth (outlines_after [] functions) outer ≡ 2)
    × (run_of (context_of below entries 2) (code ++ condition_piece below.here outer) (length code) before
    ≡ Gives (Over (pos 5 ∷ [])) (sharing (pos 0) (pos 4 ∷ pos 4 ∷ pos 8 ∷ pos 8 ∷ pos 4 ∷ []) 1) [])
    × (run_of (context_of below entries 1) (code ++ condition_piece below.here outer) (length code) before
    ≡ Gives Stuck (sharing (pos 0) (pos 4 ∷ pos 0 ∷ pos 8 ∷ pos 8 ∷ pos 4 ∷ []) 1) [])
