use Rattle.std.proofs.Common.{◌≡◌, drop}
use Rattle.snl_watch.specs.Extra.{are_dropped}
use Rattle.snl_watch.specs.Places.{place_of}
use Rattle.snl_watch.proofs.places.LinePlace.drops_each.Given as goal

abbrev pub invariant-loop-byte : goal.invariant-loop-byte
invariant-loop-byte l = are_dropped (place_of l.place) (drop l.byte-index l.bytes) ≡ are_dropped (place_of l.fn.self) l.bytes
