use Rattle.std.proofs.Common.{[], ◌∷◌, map, refl}
use Rattle.snl_syntax.specs.view.Declarations.{declarator_view}
use Rattle.snl_names.specs.Scopes.{bare}
use Rattle.snl_resolve.proofs.Steps.{row_step}
use Rattle.snl_resolve.proofs.scoping.push_names.Goals as goal

pub loop-declarator-preserved : goal.loop-declarator-preserved
loop-declarator-preserved c =
    row_step (λ x. bare (declarator_view x).name ∷ []) (λ l. map bare (map (λ n. n.name) (map declarator_view l))) (λ x xs. refl)
    c.deref-declarator-items.result.now c.loop-declarator.declarator-index c.declarator-item.result c.loop-declarator.names.items c.pushed.new.row.items _
    c.loop-declarator-test.true c.declarator-item.is c.loop-declarator.invariant c.in_ok-pushed.ensures
