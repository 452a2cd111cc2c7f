use Rattle.std.proofs.Common.{◌≡◌, ◌*◌, ◌≤◌, ◌<◌, false, ℕ}
use Rattle.snl_vm.specs.Marks.{marks_of, has}
use Rattle.snl_vm.proofs.marks.Marks.first_in.Given as goal

-- no place of the words before has a mark
abbrev pub invariant-loop-number : goal.invariant-loop-number
invariant-loop-number l = (k : ℕ) → 64 * l.word ≤ k → k < 64 * l.number → has (marks_of l.self) k ≡ false
