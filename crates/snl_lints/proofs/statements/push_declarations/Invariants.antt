use Rattle.std.proofs.Common.{◌≡◌, ◌++◌, map, drop}
use Rattle.std.specs.List.{flat_map}
use Rattle.snl_syntax.specs.view.Declarations.{declaration_view}
use Rattle.snl_names.specs.UseTables.{declared_at}
use Rattle.snl_lints.specs.Touches.{in_declaration}
use Rattle.snl_lints.proofs.statements.push_declarations.Given as goal

abbrev pub invariant-loop-declaration : goal.invariant-loop-declaration
invariant-loop-declaration l =
    l.found.items ++ flat_map (in_declaration (declared_at l.uses)) (map declaration_view (drop l.declaration-index l.declarations))
    ≡ l.initial.found.items ++ flat_map (in_declaration (declared_at l.uses)) (map declaration_view l.declarations)
