use Rattle.std.proofs.Common.{◌≡◌, ◌++◌, map, drop}
use Rattle.std.specs.List.{flat_map}
use Rattle.snl_syntax.specs.view.Declarations.{type_view, declarator_view}
use Rattle.snl_resolve.specs.Seen.{sight_of}
use Rattle.snl_names.specs.Sites.{in_declarator}
use Rattle.snl_resolve.proofs.declarations.note_declarators.Given as goal

abbrev pub invariant-loop-declarator : goal.invariant-loop-declarator
invariant-loop-declarator l =
    l.sites.items ++ flat_map (in_declarator (sight_of l.sight) l.in_block (type_view l.type_name)) (map declarator_view (drop l.declarator-index l.declarators))
    ≡ l.initial.sites.items ++ flat_map (in_declarator (sight_of l.sight) l.in_block (type_view l.type_name)) (map declarator_view l.declarators)
