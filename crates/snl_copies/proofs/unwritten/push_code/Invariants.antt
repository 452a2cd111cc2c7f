use Rattle.std.proofs.Common.{◌≡◌, ◌++◌, drop}
use Rattle.snl_copies.specs.Tests.{unwritten_in}
use Rattle.snl_copies.proofs.unwritten.push_code.Given as goal

abbrev pub invariant-loop-touch : goal.invariant-loop-touch
invariant-loop-touch l =
    l.found.items ++ unwritten_in l.way.uses.now l.way.copy.now (drop l.touch-index l.code)
    ≡ l.initial.found.items ++ unwritten_in l.way.uses.now l.way.copy.now l.code
