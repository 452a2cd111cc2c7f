use Rattle.std.proofs.Common.{◌≡◌, ◌++◌, drop, reverse}
use Rattle.snl_flat.proofs.laying.add_reversed.Given as goal

abbrev pub invariant-loop-number : goal.invariant-loop-number
invariant-loop-number l = l.code.items ≡ l.initial.code.items ++ reverse (drop l.number l.made)
