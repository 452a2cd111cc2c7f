use Rattle.std.proofs.Common.{◌≡◌, drop}
use Rattle.snl_watch.specs.Counts as spec
use Rattle.snl_watch.specs.Sets.{names_in}
use Rattle.snl_watch.specs.Seen.{seen}
use Rattle.snl_watch.proofs.counter.Counter.take_each.Given as goal

abbrev pub invariant-loop-byte : goal.invariant-loop-byte
invariant-loop-byte l = record {
  same : spec.after (names_in l.initial.self.keys) l.initial.self.room (seen l.self) (drop l.byte-index l.piece)
      ≡ spec.after (names_in l.initial.self.keys) l.initial.self.room (seen l.initial.self) l.piece;
  keys : l.self.keys ≡ l.initial.self.keys;
  room : l.self.room ≡ l.initial.self.room;
}
