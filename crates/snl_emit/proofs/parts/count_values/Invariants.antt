use Rattle.std.proofs.Common.{◌≡◌, ◌+◌, ◌≤◌, drop}
use Rattle.snl_syntax.specs.view.Expressions.{list_before}
use Rattle.snl_syntax.specs.Expressions.{no_arguments}
use Rattle.snl_emit.specs.ExpressionCode.{count_values}
use Rattle.snl_emit.proofs.parts.count_values.Given as goal

abbrev pub invariant-loop-argument : goal.invariant-loop-argument
invariant-loop-argument l =
    (l.count + count_values (list_before (drop l.argument-index l.arguments) no_arguments) ≡ count_values (list_before l.arguments no_arguments))
    × (l.count ≤ l.argument-index)
