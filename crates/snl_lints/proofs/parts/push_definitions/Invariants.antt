use Rattle.std.proofs.Common.{◌≡◌, ◌++◌, map, drop}
use Rattle.std.specs.List.{flat_map}
use Rattle.snl_syntax.specs.view.Definitions.{definition_view}
use Rattle.snl_names.specs.UseTables.{declared_at}
use Rattle.snl_lints.specs.Touches.{in_definition}
use Rattle.snl_lints.proofs.parts.push_definitions.Given as goal

abbrev pub invariant-loop-definition : goal.invariant-loop-definition
invariant-loop-definition l =
    l.found.items ++ flat_map (in_definition (declared_at l.uses)) (map definition_view (drop l.definition-index l.definitions))
    ≡ l.initial.found.items ++ flat_map (in_definition (declared_at l.uses)) (map definition_view l.definitions)
