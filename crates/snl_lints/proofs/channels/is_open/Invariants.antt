use Rattle.std.proofs.Common.{◌≡◌, false, drop}
use Rattle.snl_lints.specs.Channels.{is_open}
use Rattle.snl_lints.proofs.channels.is_open.Given as goal

abbrev pub invariant-loop-byte : goal.invariant-loop-byte
invariant-loop-byte l = is_open l.opened (drop l.byte-index l.name) ≡ is_open false l.name
