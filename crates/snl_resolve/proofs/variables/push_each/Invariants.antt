use Rattle.std.proofs.Common.{◌≡◌, ◌++◌, map, drop}
use Rattle.std.specs.List.{flat_map}
use Rattle.snl_syntax.specs.view.Definitions.{definition_view}
use Rattle.snl_names.specs.Chains.{scopes_of}
use Rattle.snl_names.specs.CopyVariables.{variable_view}
use Rattle.snl_names.specs.Variables.{by_definition}
use Rattle.snl_resolve.proofs.variables.push_each.Given as goal

abbrev pub invariant-loop-definition : goal.invariant-loop-definition
invariant-loop-definition l =
    map variable_view l.kept.items ++ flat_map (by_definition (scopes_of l.scopes)) (map definition_view (drop l.definition-index l.definitions))
    ≡ map variable_view l.initial.kept.items ++ flat_map (by_definition (scopes_of l.scopes)) (map definition_view l.definitions)
