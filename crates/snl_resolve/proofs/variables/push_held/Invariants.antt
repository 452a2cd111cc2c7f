use Rattle.std.proofs.Common.{◌≡◌, ◌++◌, map, drop}
use Rattle.snl_syntax.specs.view.Declarations.{declarator_view, type_view}
use Rattle.snl_names.specs.Chains.{scopes_of}
use Rattle.snl_names.specs.CopyVariables.{variable_view}
use Rattle.snl_names.specs.Variables.{held_for}
use Rattle.snl_resolve.proofs.variables.push_held.Given as goal

abbrev pub invariant-loop-declarator : goal.invariant-loop-declarator
invariant-loop-declarator l =
    map variable_view l.kept.items ++ map (held_for (scopes_of l.scopes) (type_view l.declared.type_name)) (map declarator_view (drop l.declarator-index l.declarator-items))
    ≡ map variable_view l.initial.kept.items ++ map (held_for (scopes_of l.scopes) (type_view l.declared.type_name)) (map declarator_view l.declarator-items)
