use Rattle.std.proofs.Common.{◌≡◌, ◌++◌, map, drop}
use Rattle.snl_syntax.specs.view.Declarations.{declarator_view}
use Rattle.snl_names.specs.Scopes.{bare}
use Rattle.snl_resolve.proofs.scoping.push_names.Given as goal

abbrev pub invariant-loop-declarator : goal.invariant-loop-declarator
invariant-loop-declarator l =
    l.names.items ++ map bare (map (λ n. n.name) (map declarator_view (drop l.declarator-index l.declarator-items)))
    ≡ l.initial.names.items ++ map bare (map (λ n. n.name) (map declarator_view l.declarator-items))
