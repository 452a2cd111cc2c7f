use Rattle.std.proofs.Common.{◌≡◌, drop}
use Rattle.snl_watch.specs.Folding.{without_time}
use Rattle.snl_watch.proofs.line_ends.digits_of.Given as goal

abbrev pub invariant-loop-byte : goal.invariant-loop-byte
invariant-loop-byte l = record {
  counted : l.count ≡ l.byte-index;
  left : without_time (drop l.byte-index l.line) ≡ without_time l.line;
}
