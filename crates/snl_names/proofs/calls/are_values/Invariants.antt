use Rattle.std.proofs.Common.{◌≡◌, drop}
use Rattle.snl_syntax.specs.view.Expressions.{list_before}
use Rattle.snl_syntax.specs.Expressions.{no_arguments}
use Rattle.snl_names.specs.Calls.{are_values}
use Rattle.snl_names.proofs.calls.are_values.Given as goal

abbrev pub invariant-loop-argument : goal.invariant-loop-argument
invariant-loop-argument l =
    are_values (list_before (drop l.argument-index l.arguments) no_arguments) ≡ are_values (list_before l.arguments no_arguments)
