use Rattle.std.proofs.Common.{◌≡◌, ◌++◌, map, drop}
use Rattle.snl_syntax.specs.view.Declarations.{declarator_view}
use Rattle.snl_names.specs.Chains.{scopes_of}
use Rattle.snl_names.specs.Scopes.{declared_names, is_hidden}
use Rattle.snl_resolve.proofs.scoping.push_declared.Given as goal

abbrev pub invariant-loop-declarator : goal.invariant-loop-declarator
invariant-loop-declarator l =
    l.found.items ++ declared_names (is_hidden (scopes_of l.scopes)) (map declarator_view (drop l.declarator-index l.declarator-items))
    ≡ l.initial.found.items ++ declared_names (is_hidden (scopes_of l.scopes)) (map declarator_view l.declarator-items)
