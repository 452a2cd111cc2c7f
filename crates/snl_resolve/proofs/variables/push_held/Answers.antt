use Rattle.std.proofs.Common.{◌∙◌, [], ◌∷◌, ◌++◌, ap, map, refl}
use Rattle.std.proofs.lemmas.List.{map-append}
use Rattle.snl_syntax.specs.view.Declarations.{declarator_view, type_view}
use Rattle.snl_names.specs.Chains.{scopes_of}
use Rattle.snl_names.specs.CopyVariables.{variable_view}
use Rattle.snl_names.specs.Variables.{held_for}
use Rattle.snl_resolve.proofs.Steps.{row_step}
use Rattle.snl_resolve.proofs.variables.push_held.Goals as goal

pub loop-declarator-preserved : goal.loop-declarator-preserved
loop-declarator-preserved c =
    let one = held_for (scopes_of c.args.scopes.now) (type_view c.args.declared.now.type_name) in
    let kept = c.loop-declarator.kept.items in
    row_step (λ x. one (declarator_view x) ∷ []) (λ l. map one (map declarator_view l)) (λ x xs. refl)
    c.deref-declarator-items.result.now c.loop-declarator.declarator-index c.declarator-item.result (map variable_view kept) (map variable_view c.pushed.new.row.items) _
    c.loop-declarator-test.true c.declarator-item.is c.loop-declarator.invariant
    (ap (map variable_view) c.in_ok-pushed.ensures ∙ map-append variable_view kept _ ∙ (λ j. map variable_view kept ++ c.held_for.ensures j ∷ []))
