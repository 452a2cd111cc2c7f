use Rattle.std.proofs.Common.{map, take}
use Rattle.snl_syntax.specs.view.Programs.{state_view}
use Rattle.snl_names.specs.NumberTables.{IsNumberTable}
use Rattle.snl_reach.specs.Reach.{state_names}
use Rattle.snl_reach.proofs.state_numbers.state_numbers.Given as goal

abbrev pub invariant-loop-number : goal.invariant-loop-number
invariant-loop-number l = IsNumberTable l.numbers (take l.number (state_names (map state_view l.states)))
