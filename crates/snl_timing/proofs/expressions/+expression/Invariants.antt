use Rattle.std.proofs.Common.{Some, map, drop}
use Rattle.snl_alike.specs.Delays.{DelaysAmong, DelaysBehind, IsShort}
use Rattle.snl_syntax.specs.view.Expressions.{pair_of, list_before}
use Rattle.snl_syntax.specs.view.Lists.{term_list}
use Rattle.snl_syntax.specs.Expressions.{no_arguments}
use Rattle.snl_timing.proofs.expressions.+expression.Given as goal

-- If the operands that are left are short, all are.
abbrev pub invariant-are_short_behind-loop-term : goal.invariant-are_short_behind-loop-term
invariant-are_short_behind-loop-term l =
    DelaysBehind (IsShort (Some l.longest)) (term_list (map pair_of (drop l.term-index l.terms))) → DelaysBehind (IsShort (Some l.longest)) (term_list (map pair_of l.terms))

-- If the arguments that are left are, all are.
abbrev pub invariant-are_short_among-loop-argument : goal.invariant-are_short_among-loop-argument
invariant-are_short_among-loop-argument l =
    DelaysAmong (IsShort (Some l.longest)) (list_before (drop l.argument-index l.arguments) no_arguments) →
    DelaysAmong (IsShort (Some l.longest)) (list_before l.arguments no_arguments)
