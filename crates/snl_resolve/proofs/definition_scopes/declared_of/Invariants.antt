use Rattle.std.proofs.Common.{◌≡◌, ◌++◌, map, drop}
use Rattle.std.specs.List.{flat_map}
use Rattle.snl_syntax.specs.view.Definitions.{definition_view}
use Rattle.snl_names.specs.Chains.{scopes_of}
use Rattle.snl_names.specs.Scopes.{declared_by, is_hidden}
use Rattle.snl_resolve.proofs.definition_scopes.declared_of.Given as goal

abbrev pub invariant-loop-definition : goal.invariant-loop-definition
invariant-loop-definition l =
    l.found.items ++ flat_map (declared_by (is_hidden (scopes_of l.scopes))) (map definition_view (drop l.definition-index l.definitions))
    ≡ flat_map (declared_by (is_hidden (scopes_of l.scopes))) (map definition_view l.definitions)
