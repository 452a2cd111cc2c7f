use Rattle.std.proofs.Common.{◌≡◌, ◌+◌, ◌*◌, ◌≤◌, length}
use Rattle.snl_same.specs.Sides.{stand_of}
use Rattle.snl_same.proofs.OverLaws.{IsUnderWay}
use Rattle.snl_same.proofs.comparison.compare_over.Given as goal

-- the bytes that were read were taken in, and no more lines have ended than that
abbrev pub invariant-loop-reads : goal.invariant-loop-reads
invariant-loop-reads g l = record {
  way : IsUnderWay (g.R.Source.gave l.trace) l._reads l.reading.begun.items (stand_of l.initial.log l.initial.old l.initial.new) (stand_of l.log l.old l.new);
  room : length l.room ≡ 65536;
  number : l.log.number ≤ 1 + l._reads * 65536;
  works : g.R.Source.failures l.trace ≡ g.R.Source.failures l.initial.trace;
}
