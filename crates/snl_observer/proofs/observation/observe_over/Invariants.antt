use Rattle.std.proofs.Common.{◌≡◌, ◌+◌, ◌*◌, ◌≤◌, length}
use Rattle.snl_observer.specs.Behind.{stand_by}
use Rattle.snl_observer.proofs.OverLaws.{IsUnderWay}
use Rattle.snl_observer.proofs.observation.observe_over.Given as goal

-- the bytes that were read were taken in, and no more lines have ended than that
abbrev pub invariant-loop-reads : goal.invariant-loop-reads
invariant-loop-reads g l = record {
  way : IsUnderWay (g.R.Source.gave l.trace) l._reads l.reading.begun.items
      (stand_by l.initial.run l.initial.watch 1 l.initial.log.page.run.bytes l.initial.log.page.watch.bytes l.initial.log.how l.initial.log.page.is_stuck)
      (stand_by l.run l.watch l.reading.number l.log.page.run.bytes l.log.page.watch.bytes l.log.how l.log.page.is_stuck);
  room : length l.room ≡ 65536;
  number : l.reading.number ≤ 1 + l._reads * 65536;
  works : g.R.Source.failures l.trace ≡ g.R.Source.failures l.initial.trace;
}
