-- What short pieces of code test: computed from the definitions alone.
use Rattle.std.specs.Prelude.{◌≡◌, ℕ, pos, negsuc, Bool, true, false, List, [], ◌∷◌}
use Rattle.snl_text.specs.declared.kinds.Kind.TheVariants as kind
use Rattle.snl_names.specs.declared.builtins.Query.TheVariants as query
use Rattle.snl_meaning.specs.declared.instrs.Instr.{Instr}
use Rattle.snl_meaning.specs.declared.instrs.Instr.TheVariants as instr
use Rattle.snl_meaning.specs.declared.instrs.Variable.{Variable}
use Rattle.snl_vm.specs.declared.parts.Test.TheVariants as test
use Rattle.snl_vm.specs.Conditions.{greatest_word, is_empty_at, least_word, lies, outside, test_at, within}

-- A variable of a copy, or of a function, at a place.
abbrev pub variable : Bool → ℕ → Variable
variable is_shared place = record { place = place; size = 1; least = negsuc 99; greatest = pos 99; is_shared = is_shared }

-- A piece that pushes such a variable first, behind an empty one.
abbrev pub piece : List Instr → List Instr
piece others = instr.End ∷ instr.Load (variable false 3) ∷ others

-- `v`, `!v`, `v > 5`, `v < 5`, `v + u` and `v + u == 5` are tests, where the piece ends behind them.
abbrev pub VariableExamples : Type 0
VariableExamples =
    (test_at (piece (instr.End ∷ [])) 1 ≡ test.Is 3)
    × (test_at (piece (instr.ApplyPrefix kind.Bang 7 ∷ instr.End ∷ [])) 1 ≡ test.Lies 3 (within (pos 0) (pos 0)))
    × (test_at (piece (instr.ApplyNumber kind.Greater (pos 5) 7 ∷ instr.End ∷ [])) 1 ≡ test.Lies 3 (outside least_word (pos 5)))
    × (test_at (piece (instr.ApplyNumber kind.Less (pos 5) 7 ∷ instr.End ∷ [])) 1 ≡ test.Lies 3 (outside (pos 5) greatest_word))
    × (test_at (piece (instr.Load (variable false 4) ∷ instr.Apply kind.Plus 7 ∷ instr.End ∷ [])) 1 ≡ test.Pair 3 4 kind.Plus)
    × (test_at (piece (instr.Load (variable false 4) ∷ instr.Apply kind.Plus 7 ∷ instr.ApplyNumber kind.EqualEqual (pos 5) 7 ∷ instr.End ∷ [])) 1 ≡ test.Joined 3 4 kind.Plus (within (pos 5) (pos 5)))

-- So are `delay(2)` and what asks of an event flag.
abbrev pub OtherExamples : Type 0
OtherExamples =
    (test_at (instr.Push (pos 2) ∷ instr.Wait true ∷ instr.End ∷ []) 0 ≡ test.Due 2000)
    × (test_at (instr.Push (pos 2) ∷ instr.Wait false ∷ instr.End ∷ []) 0 ≡ test.Due 2)
    × (test_at (instr.Ask query.EfTest 1 ∷ instr.End ∷ []) 0 ≡ test.IsSet 1)
    × (test_at (instr.Ask query.EfTestAndClear 1 ∷ instr.End ∷ []) 0 ≡ test.Takes 1)

-- None are a variable of a function, `v + 5`, a negative `delay`, what goes on, and what is cut off.
abbrev pub CodeExamples : Type 0
CodeExamples =
    (test_at (instr.Load (variable true 3) ∷ instr.End ∷ []) 0 ≡ test.Code)
    × (test_at (piece (instr.ApplyNumber kind.Plus (pos 5) 7 ∷ instr.End ∷ [])) 1 ≡ test.Code)
    × (test_at (instr.Push (negsuc 0) ∷ instr.Wait true ∷ instr.End ∷ []) 0 ≡ test.Code)
    × (test_at (piece (instr.ApplyNumber kind.Greater (pos 5) 7 ∷ instr.JumpIfZero 2 ∷ instr.End ∷ [])) 1 ≡ test.Code)
    × (test_at (piece (instr.ApplyNumber kind.Greater (pos 5) 7 ∷ [])) 1 ≡ test.Code)

-- 6 is above 5, and 5 is not; the piece at the start is empty, and the next one is not.
abbrev pub RangeExamples : Type 0
RangeExamples =
    (lies (outside least_word (pos 5)) (pos 6) ≡ true)
    × (lies (outside least_word (pos 5)) (pos 5) ≡ false)
    × (lies (within (pos 0) (pos 0)) (negsuc 0) ≡ false)
    × (is_empty_at (piece (instr.End ∷ [])) 0 ≡ true)
    × (is_empty_at (piece (instr.End ∷ [])) 1 ≡ false)
