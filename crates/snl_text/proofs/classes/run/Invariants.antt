use Rattle.std.proofs.Common.{◌≡◌, ◌+◌, drop}
use Rattle.std.specs.List.{prefix_len}
use Rattle.snl_text.proofs.classes.run.Given as goal

abbrev pub invariant-loop-i : goal.invariant-loop-i
invariant-loop-i g l = prefix_len g.C.ByteClass.has l.bytes ≡ l.i + prefix_len g.C.ByteClass.has (drop l.i l.bytes)
