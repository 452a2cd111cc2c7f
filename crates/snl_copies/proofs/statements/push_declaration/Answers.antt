use Rattle.std.proofs.Common.{◌∙◌, ◌<◌, ◌≤◌, ap, get_or, length, map, refl, subst}
use Rattle.std.specs.List.{flat_map}
use Rattle.snl_syntax.specs.view.Declarations.{declarator_view}
use Rattle.snl_copies.specs.Code.{in_declarator}
use Rattle.snl_resolve.proofs.Steps.{row_step}
use Rattle.snl_copies.proofs.Rows.{row_ends}
use Rattle.snl_copies.proofs.statements.push_declaration.Goals as goal

pub loop-declarator-init : goal.loop-declarator-init
loop-declarator-init c = refl

pub loop-declarator-preserved : goal.loop-declarator-preserved
loop-declarator-preserved c =
    let i = c.loop-declarator.declarator-index in
    let all = c.deref-declarator-items.ensures.value in
    row_step (λ x. in_declarator (declarator_view x)) (λ l. flat_map in_declarator (map declarator_view l)) (λ x xs. refl)
    c.args.declaration.now.names.items i c.declarator-item.result c.loop-declarator.code.items c.push_declarator.new.code.items _
    (subst (λ l. i < length l) all c.loop-declarator-test.true) (c.declarator-item.is ∙ ap (λ l. get_or l i c.declarator-item.result) all) c.loop-declarator.invariant c.in_ok-push_declarator.ensures

pub returns : goal.returns
returns c =
    let i = c.loop-declarator.declarator-index in
    row_ends (λ l. flat_map in_declarator (map declarator_view l)) refl
    c.args.declaration.now.names.items i _ _ (subst (λ l. length l ≤ i) c.deref-declarator-items.ensures.value c.loop-declarator-test.false) c.loop-declarator.invariant
