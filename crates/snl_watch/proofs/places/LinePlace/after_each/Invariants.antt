use Rattle.std.proofs.Common.{◌≡◌, drop}
use Rattle.snl_watch.specs.Extra.{place_after}
use Rattle.snl_watch.specs.Places.{place_of}
use Rattle.snl_watch.proofs.places.LinePlace.after_each.Given as goal

abbrev pub invariant-loop-byte : goal.invariant-loop-byte
invariant-loop-byte l = place_after (place_of l.place) (drop l.byte-index l.bytes) ≡ place_after (place_of l.fn.self) l.bytes
