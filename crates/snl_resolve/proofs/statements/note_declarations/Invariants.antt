use Rattle.std.proofs.Common.{◌≡◌, ◌++◌, map, drop, true}
use Rattle.std.specs.List.{flat_map}
use Rattle.snl_syntax.specs.view.Declarations.{declaration_view}
use Rattle.snl_resolve.specs.Seen.{sight_of}
use Rattle.snl_names.specs.Sites.{in_declaration}
use Rattle.snl_resolve.proofs.statements.note_declarations.Given as goal

abbrev pub invariant-loop-declared : goal.invariant-loop-declared
invariant-loop-declared l =
    l.sites.items ++ flat_map (in_declaration (sight_of l.sight) true) (map declaration_view (drop l.declared-index l.declarations))
    ≡ l.initial.sites.items ++ flat_map (in_declaration (sight_of l.sight) true) (map declaration_view l.declarations)
