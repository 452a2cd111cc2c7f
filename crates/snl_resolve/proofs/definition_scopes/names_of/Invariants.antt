use Rattle.std.proofs.Common.{◌≡◌, ◌++◌, map, drop}
use Rattle.snl_syntax.specs.view.Definitions.{definition_view}
use Rattle.snl_names.specs.Scopes.{bare_names}
use Rattle.snl_resolve.proofs.definition_scopes.names_of.Given as goal

abbrev pub invariant-loop-definition : goal.invariant-loop-definition
invariant-loop-definition l =
    l.names.items ++ bare_names (map definition_view (drop l.definition-index l.definitions)) ≡ bare_names (map definition_view l.definitions)
