use Rattle.std.proofs.Common.{◌≡◌, ◌++◌, map, drop}
use Rattle.snl_syntax.specs.view.Functions.{parameter_view}
use Rattle.snl_names.specs.CopyVariables.{variable_view}
use Rattle.snl_names.specs.Variables.{held_parameter}
use Rattle.snl_resolve.proofs.function_variables.push_parameters.Given as goal

abbrev pub invariant-loop-parameter : goal.invariant-loop-parameter
invariant-loop-parameter l =
    map variable_view l.kept.items ++ map held_parameter (map parameter_view (drop l.parameter-index l.parameters))
    ≡ map variable_view l.initial.kept.items ++ map held_parameter (map parameter_view l.parameters)
