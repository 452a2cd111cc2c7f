use Rattle.std.proofs.Common.{◌≡◌, ◌++◌, drop}
use Rattle.snl_suite.specs.Escaped.{escaped}
use Rattle.snl_suite.proofs.escaped.push_escaped.Given as goal

-- what was added, and what stands for the rest of the text, are all
abbrev pub invariant-loop-byte : goal.invariant-loop-byte
invariant-loop-byte l = l.out.items ++ escaped (drop l.byte-index l.text) ≡ l.initial.out.items ++ escaped l.text
