use Rattle.std.proofs.Common.{◌+◌, ◌≤◌, length}
use Rattle.snl_same.specs.Sides.{stand_of}
use Rattle.snl_same.proofs.TakingLaws.{IsPartWay}
use Rattle.snl_same.proofs.comparison.take_in.Given as goal

-- the bytes before those that are left were taken in, and no more lines have ended than there were bytes
abbrev pub invariant-loop-next : goal.invariant-loop-next
invariant-loop-next l = record {
  way : IsPartWay l.bytes l.left l.initial.reading.begun.items l.reading.begun.items (stand_of l.initial.log l.initial.old l.initial.new) (stand_of l.log l.old l.new);
  number : l.log.number + length l.left ≤ l.initial.log.number + length l.bytes;
}

abbrev pub decreases-loop-next : goal.decreases-loop-next
decreases-loop-next l = length l.left
