use Rattle.std.proofs.Common.{length}
use Rattle.snl_moments.proofs.TakeLaws.{IsPartWay}
use Rattle.snl_moments.specs.Plans.{KeepsPlan}
use Rattle.snl_moments.proofs.trace_walk.take_in.Given as goal

-- the bytes before those that are left were taken in
abbrev pub invariant-loop-line : goal.invariant-loop-line
invariant-loop-line l = record {
  way : IsPartWay l.bytes l.left l.initial.begun.items l.begun.items l.initial.walk l.walk;
  plan : KeepsPlan l.initial.walk l.walk;
}

abbrev pub decreases-loop-line : goal.decreases-loop-line
decreases-loop-line l = length l.left
