use Rattle.std.proofs.Common.{◌≤◌}
use Rattle.snl_moments.specs.Plans.{KeepsPlan}
use Rattle.snl_moments.specs.Walks.{Nears}
use Rattle.snl_moments.proofs.times.tell_due.Given as goal

-- the times so far were told
abbrev pub invariant-loop-time : goal.invariant-loop-time
invariant-loop-time l = record { nears : Nears l.line l.initial.walk l.walk; plan : KeepsPlan l.initial.walk l.walk; next : l._time ≤ l.walk.next }
