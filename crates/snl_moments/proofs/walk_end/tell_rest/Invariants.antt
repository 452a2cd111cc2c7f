use Rattle.std.proofs.Common.{◌≡◌, ◌≤◌, true}
use Rattle.snl_moments.specs.Plans.{KeepsPlan}
use Rattle.snl_moments.specs.Walks.{EndsAt}
use Rattle.snl_moments.proofs.walk_end.tell_rest.Given as goal

-- the times so far were told; where nothing follows, each of them
abbrev pub invariant-loop-time : goal.invariant-loop-time
invariant-loop-time l = record {
  ends : EndsAt l.is_over l.initial.walk l.walk;
  plan : KeepsPlan l.initial.walk l.walk;
  next : l.is_over ≡ true → l._time ≤ l.walk.next;
}
