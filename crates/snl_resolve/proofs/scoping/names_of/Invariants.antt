use Rattle.std.proofs.Common.{◌≡◌, ◌++◌, map, drop}
use Rattle.std.specs.List.{flat_map}
use Rattle.snl_syntax.specs.view.Declarations.{declaration_view}
use Rattle.snl_syntax.specs.Definitions.{declaration}
use Rattle.snl_names.specs.Scopes.{bare, names_by}
use Rattle.snl_resolve.proofs.scoping.names_of.Given as goal

abbrev pub invariant-loop-declared : goal.invariant-loop-declared
invariant-loop-declared l =
    l.names.items ++ map bare (flat_map names_by (map declaration (map declaration_view (drop l.declared-index l.declarations))))
    ≡ map bare (flat_map names_by (map declaration (map declaration_view l.declarations)))
