use Rattle.std.proofs.Common.{◌≡◌, ◌++◌, map, drop}
use Rattle.std.specs.List.{flat_map}
use Rattle.snl_syntax.specs.view.Declarations.{declaration_view}
use Rattle.snl_syntax.specs.Definitions.{declaration}
use Rattle.snl_names.specs.Chains.{scopes_of}
use Rattle.snl_names.specs.Scopes.{declared_by, is_hidden}
use Rattle.snl_resolve.proofs.scoping.declared_of.Given as goal

abbrev pub invariant-loop-declared : goal.invariant-loop-declared
invariant-loop-declared l =
    l.found.items ++ flat_map (declared_by (is_hidden (scopes_of l.scopes))) (map declaration (map declaration_view (drop l.declared-index l.declarations)))
    ≡ flat_map (declared_by (is_hidden (scopes_of l.scopes))) (map declaration (map declaration_view l.declarations))
