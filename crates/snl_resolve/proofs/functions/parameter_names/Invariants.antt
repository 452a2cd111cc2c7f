use Rattle.std.proofs.Common.{◌≡◌, ◌++◌, map, drop}
use Rattle.snl_syntax.specs.view.Functions.{parameter_view}
use Rattle.snl_names.specs.Sights.{parameters_of}
use Rattle.snl_resolve.proofs.functions.parameter_names.Given as goal

abbrev pub invariant-loop-parameter : goal.invariant-loop-parameter
invariant-loop-parameter l =
    l.names.items ++ parameters_of (map parameter_view (drop l.parameter-index l.parameters)) ≡ parameters_of (map parameter_view l.parameters)
