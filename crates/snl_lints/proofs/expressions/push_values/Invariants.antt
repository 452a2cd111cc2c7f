use Rattle.std.proofs.Common.{◌≡◌, ◌++◌, map, drop}
use Rattle.std.specs.List.{flat_map}
use Rattle.snl_syntax.specs.view.Expressions.{boxed}
use Rattle.snl_names.specs.UseTables.{declared_at}
use Rattle.snl_lints.specs.Touches.{in_value}
use Rattle.snl_lints.proofs.expressions.push_values.Given as goal

abbrev pub invariant-loop-value : goal.invariant-loop-value
invariant-loop-value l =
    l.found.items ++ flat_map (in_value (declared_at l.uses)) (map boxed (drop l.value-index l.values))
    ≡ l.initial.found.items ++ flat_map (in_value (declared_at l.uses)) (map boxed l.values)
