use Rattle.std.proofs.Common.{length}
use Rattle.snl_trace.proofs.PlainLaws.{IsWayIn}
use Rattle.snl_trace.proofs.plain.behind_values.Given as goal

-- the values before those that are left were kept
abbrev pub invariant-loop-value : goal.invariant-loop-value
invariant-loop-value l = IsWayIn l.values.items l.fn.text l.left

abbrev pub decreases-loop-value : goal.decreases-loop-value
decreases-loop-value l = length l.left
