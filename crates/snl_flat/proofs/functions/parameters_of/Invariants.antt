use Rattle.std.proofs.Common.{◌≡◌, ◌++◌, drop, map}
use Rattle.std.specs.List.{flat_map}
use Rattle.snl_syntax.specs.view.Functions.{parameter_view}
use Rattle.snl_flat.specs.Heres.{parameter_variable}
use Rattle.snl_flat.proofs.functions.parameters_of.Given as goal

-- variables so far, and those that are left
abbrev pub invariant-loop-parameter : goal.invariant-loop-parameter
invariant-loop-parameter l =
    l.kept.items ++ flat_map (parameter_variable l.places) (map parameter_view (drop l.parameter-index l.parameters))
    ≡ flat_map (parameter_variable l.places) (map parameter_view l.parameters)
