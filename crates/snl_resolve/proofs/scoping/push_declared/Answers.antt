use Rattle.std.proofs.Common.{◌∙◌, [], ◌∷◌, ◌++◌, map, refl}
use Rattle.snl_syntax.specs.view.Declarations.{declarator_view}
use Rattle.snl_names.specs.Chains.{scopes_of}
use Rattle.snl_names.specs.Scopes.{declared_name, declared_names, is_hidden}
use Rattle.snl_resolve.proofs.Steps.{row_step}
use Rattle.snl_resolve.proofs.scoping.push_declared.Goals as goal

pub loop-declarator-preserved : goal.loop-declarator-preserved
loop-declarator-preserved c =
    let h = is_hidden (scopes_of c.args.scopes.now) in
    row_step (λ x. declared_name h (declarator_view x) ∷ []) (λ l. declared_names h (map declarator_view l)) (λ x xs. refl)
    c.deref-declarator-items.result.now c.loop-declarator.declarator-index c.declarator-item.result c.loop-declarator.found.items c.pushed.new.row.items _
    c.loop-declarator-test.true c.declarator-item.is c.loop-declarator.invariant
    (c.in_ok-pushed.ensures ∙ (λ j. c.loop-declarator.found.items ++ c.declared_for.ensures j ∷ []))
