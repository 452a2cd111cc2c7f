use Rattle.std.proofs.Common.{◌≡◌, ◌++◌, map, drop}
use Rattle.snl_syntax.specs.view.Functions.{parameter_view}
use Rattle.snl_lints.specs.Touches.{at_parameter}
use Rattle.snl_lints.proofs.parts.push_parameters.Given as goal

abbrev pub invariant-loop-parameter : goal.invariant-loop-parameter
invariant-loop-parameter l =
    l.found.items ++ map at_parameter (map parameter_view (drop l.parameter-index l.parameters))
    ≡ l.initial.found.items ++ map at_parameter (map parameter_view l.parameters)
