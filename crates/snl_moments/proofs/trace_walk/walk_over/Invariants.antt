use Rattle.std.proofs.Common.{◌≡◌, length}
use Rattle.snl_moments.proofs.TakeLaws.{IsUnderWay}
use Rattle.snl_moments.specs.Plans.{KeepsPlan}
use Rattle.snl_moments.proofs.trace_walk.walk_over.Given as goal

-- the bytes that were read were taken in
abbrev pub invariant-loop-reads : goal.invariant-loop-reads
invariant-loop-reads g l = record {
  way : IsUnderWay (g.R.Source.gave l.trace) l.begun.items l.initial.walk l.walk;
  plan : KeepsPlan l.initial.walk l.walk;
  room : length l.room ≡ 65536;
  works : g.R.Source.failures l.trace ≡ g.R.Source.failures l.initial.trace;
}
