use Rattle.std.proofs.Common.{◌≡◌, ◌++◌, map, drop}
use Rattle.std.specs.List.{flat_map}
use Rattle.snl_syntax.specs.view.Declarations.{type_view, declarator_view}
use Rattle.snl_names.specs.UseTables.{declared_at}
use Rattle.snl_lints.specs.Touches.{in_declarator}
use Rattle.snl_lints.proofs.statements.push_declaration.Given as goal

abbrev pub invariant-loop-declarator : goal.invariant-loop-declarator
invariant-loop-declarator l =
    l.found.items ++ flat_map (in_declarator (declared_at l.uses) (type_view l.declaration.type_name)) (map declarator_view (drop l.declarator-index l.declaration.names.items))
    ≡ l.initial.found.items ++ flat_map (in_declarator (declared_at l.uses) (type_view l.declaration.type_name)) (map declarator_view l.declaration.names.items)
