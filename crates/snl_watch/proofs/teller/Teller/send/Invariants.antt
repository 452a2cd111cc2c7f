use Rattle.std.proofs.Common.{length, ◌-◌, ◌≡◌, ◌≤◌, drop, true}
use Rattle.snl_watch.specs.Extra.{are_dropped, shown}
use Rattle.snl_watch.specs.Places.{place_of}
use Rattle.snl_watch.proofs.teller.Teller.send.Given as goal

abbrev pub invariant-loop-sent : goal.invariant-loop-sent
invariant-loop-sent g l = record {
  within : l.sent ≤ length l.lines;
  dropped : are_dropped (place_of l.self.place) (drop l.sent l.lines) ≡ true;
  told : shown (g.K.Sink.told l.self.inner) ≡ shown (g.K.Sink.told l.initial.self.inner);
  failures : g.K.Sink.failures l.self.inner ≡ g.K.Sink.failures l.initial.self.inner;
  refused : l.self.refused ≡ l.initial.self.refused;
}

abbrev pub decreases-loop-sent : goal.decreases-loop-sent
decreases-loop-sent g l = length l.lines - l.sent
