use Rattle.std.proofs.Common.{take}
use Rattle.snl_names.specs.NumberTables.{IsNumberTable}
use Rattle.snl_names.proofs.numbered.Numbered.of.Given as goal

abbrev pub invariant-loop-number : goal.invariant-loop-number
invariant-loop-number l = IsNumberTable l.numbers (take l.number l.name-items)
