use Rattle.std.proofs.Common.{◌≡◌, take, true}
use Rattle.snl_watch.specs.Extra.{are_kept, place_after}
use Rattle.snl_watch.specs.Places.{place_of}
use Rattle.snl_watch.proofs.places.LinePlace.kept_each.Given as goal

abbrev pub invariant-loop-byte : goal.invariant-loop-byte
invariant-loop-byte l = record {
  counted : l.count ≡ l.byte-index;
  place : place_of l.place ≡ place_after (place_of l.fn.self) (take l.byte-index l.bytes);
  kept : are_kept (place_of l.fn.self) (take l.byte-index l.bytes) ≡ true;
}
