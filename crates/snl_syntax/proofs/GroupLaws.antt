-- How `a < b < c` is grouped.
use Rattle.std.proofs.Common.{ℕ, ◌<◌, refl, inl, arith}
use Rattle.snl_syntax.specs.Expressions.{IsExpr}
use Rattle.snl_syntax.specs.GroupExamples.{to_the_left, to_the_right, GroupExamples}

-- one chain of two operators is an expression
left_is_one : (n : ℕ) → IsExpr n to_the_left
left_is_one n = (omega arith, (inl (omega arith, omega arith), omega arith, refl, (refl, omega arith, refl, (refl, omega arith, refl, record {}))))

-- the operand of an operator is tighter than it
right_is_none : (n : ℕ) → IsExpr n to_the_right → ⊥
right_is_none n h = let tight : 6 < 6 = h.1.3.1 in omega arith

-- both of them
pub group_examples : GroupExamples
group_examples = (refl, left_is_one, right_is_none)
