use Rattle.std.proofs.Common.{◌≡◌, ◌≤◌, take}
use Rattle.snl_text.specs.Cut.{newlines}
use Rattle.snl_text.proofs.scanner.newlines.Given as goal

abbrev pub invariant-loop-byte : goal.invariant-loop-byte
invariant-loop-byte l = record {
  counted : l.count ≡ newlines (take l.byte-index l.text);
  within : l.count ≤ l.byte-index;
}
