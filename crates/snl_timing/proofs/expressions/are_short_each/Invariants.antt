use Rattle.std.proofs.Common.{Some, map, drop}
use Rattle.snl_alike.specs.Delays.{DelaysEach, IsShort}
use Rattle.snl_syntax.specs.view.Expressions.{boxed}
use Rattle.snl_timing.proofs.expressions.are_short_each.Given as goal

-- If the values that are left are short, all are.
abbrev pub invariant-loop-value : goal.invariant-loop-value
invariant-loop-value l = DelaysEach (IsShort (Some l.longest)) (map boxed (drop l.value-index l.values)) → DelaysEach (IsShort (Some l.longest)) (map boxed l.values)
