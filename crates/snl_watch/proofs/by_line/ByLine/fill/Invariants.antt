use Rattle.std.proofs.Common.{◌≡◌, ◌+◌, ◌-◌, false, length, if◌then◌else◌}
use Rattle.snl_watch.specs.Window.{window}
use Rattle.snl_watch.proofs.by_line.ByLine.fill.Given as goal

abbrev pub invariant-loop-self : goal.invariant-loop-self
invariant-loop-self g l = record {
  past : l.self.past.bytes ≡ l.initial.self.past.bytes;
  said : l.self.said ≡ false;
  broke : l.self.is_broken ≡ false;
  none_failed : g.R.Source.failures l.self.inner ≡ g.R.Source.failures l.initial.self.inner;
}

abbrev pub decreases-loop-self : goal.decreases-loop-self
decreases-loop-self g l = if l.self.ended then 0 else 1 + (65536 - length (window l.self.held))
