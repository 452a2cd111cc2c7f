use Rattle.std.proofs.Common.{◌+◌, ◌≤◌, length}
use Rattle.snl_observer.specs.Behind.{stand_by}
use Rattle.snl_observer.proofs.TakingLaws.{IsPartWay}
use Rattle.snl_observer.proofs.observation.take_in.Given as goal

-- the bytes before those that are left were taken in, and no more lines have ended than there were bytes
abbrev pub invariant-loop-line : goal.invariant-loop-line
invariant-loop-line g l = record {
  way : IsPartWay l.bytes l.left l.initial.reading.begun.items l.reading.begun.items
      (stand_by l.initial.run l.initial.watch l.initial.reading.number l.initial.log.page.run.bytes l.initial.log.page.watch.bytes l.initial.log.how l.initial.log.page.is_stuck)
      (stand_by l.run l.watch l.reading.number l.log.page.run.bytes l.log.page.watch.bytes l.log.how l.log.page.is_stuck);
  number : l.reading.number + length l.left ≤ l.initial.reading.number + length l.bytes;
}

abbrev pub decreases-loop-line : goal.decreases-loop-line
decreases-loop-line g l = length l.left
