use Rattle.std.proofs.Common.{◌≡◌, ◌++◌, length}
use Rattle.snl_suite.proofs.comparer.Comparer.take.Given as goal

-- what was taken in, and what is left, are the piece
abbrev pub invariant-loop-left : goal.invariant-loop-left
invariant-loop-left g l = l.initial.self.told.bytes ++ l.piece ≡ l.self.told.bytes ++ l.left

abbrev pub decreases-loop-left : goal.decreases-loop-left
decreases-loop-left g l = length l.left
