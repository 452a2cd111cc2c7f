-- The conditions of a state have stretches of code of their own, one after another.
use Rattle.std.specs.Prelude.{◌≡◌, ◌≤◌, ℕ, List, [], ◌∷◌, Option, None, Some, length, take}
use Rattle.snl_syntax.specs.Expressions.{ExprTree}
use Rattle.snl_syntax.specs.Programs.{ClauseTree, ProgramTree}
use Rattle.snl_meaning.specs.declared.instrs.Instr.{Instr}
use Rattle.snl_meaning.specs.Run.{Entry}
use Rattle.snl_emit.specs.Depths.{expression_depth}
use Rattle.snl_emit.specs.Right.{IsConditionAt}
use Rattle.snl_flat.specs.declared.starts.ClauseStarts.{ClauseStarts}
use Rattle.snl_flat.specs.Heres.{outlines_in, scene_in}

-- The condition of a clause begins no earlier than some address and ends where its clause's block begins: in the code up to
-- there alone it is right, with functions that begin where their entries say.
pub record IsStretch (p : ProgramTree) (set : ℕ) (code : List Instr) (functions : List Entry) (from : ℕ) (condition : ExprTree) (s : ClauseStarts) : Type 0 where
  pub start : ℕ
  pub there : s.condition ≡ Some start
  pub begins : from ≤ start
  pub ends : start ≤ s.block
  pub within : s.block ≤ length code
  pub is : (room : ℕ) → expression_depth (outlines_in p) condition ≤ room → IsConditionAt (scene_in p set) (take s.block code) functions room start condition

-- The same of a condition that may be missing.
abbrev pub IsAlone : ProgramTree → (set : ℕ) → List Instr → List Entry → (from : ℕ) → Option ExprTree → ClauseStarts → Type 0
IsAlone p set code functions from None s = (from ≤ s.block) × (s.block ≤ length code)
IsAlone p set code functions from (Some condition) s = IsStretch p set code functions from condition s

-- The same of the conditions of clauses in a row: each begins no earlier than the block of the clause before it.
abbrev pub AreApart : ProgramTree → (set : ℕ) → List Instr → List Entry → (from : ℕ) → List ClauseTree → List ClauseStarts → Type 0
AreApart p set code functions from [] [] = Unit {0}
AreApart p set code functions from (c ∷ cs) (s ∷ ss) = IsAlone p set code functions from c.condition s × AreApart p set code functions s.block cs ss
AreApart p set code functions from _ _ = ⊥
