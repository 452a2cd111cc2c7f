use Rattle.std.proofs.Common.{◌∙◌, ◌<◌, ◌≤◌, ap, get_or, length, map, refl, subst}
use Rattle.std.specs.List.{flat_map}
use Rattle.snl_syntax.specs.view.Programs.{state_view}
use Rattle.snl_copies.specs.Code.{in_state}
use Rattle.snl_resolve.proofs.Steps.{row_step}
use Rattle.snl_copies.proofs.Rows.{row_ends}
use Rattle.snl_copies.proofs.parts.push_state_set.Goals as goal

pub loop-state-init : goal.loop-state-init
loop-state-init c = refl

pub loop-state-preserved : goal.loop-state-preserved
loop-state-preserved c =
    let i = c.loop-state.state-index in
    let all = c.deref-state-items.ensures.value in
    row_step (λ x. in_state (state_view x)) (λ l. flat_map in_state (map state_view l)) (λ x xs. refl)
    c.args.set.now.states.items i c.state-item.result c.loop-state.code.items c.push_state.new.code.items _
    (subst (λ l. i < length l) all c.loop-state-test.true) (c.state-item.is ∙ ap (λ l. get_or l i c.state-item.result) all) c.loop-state.invariant c.in_ok-push_state.ensures

pub returns : goal.returns
returns c =
    let i = c.loop-state.state-index in
    row_ends (λ l. flat_map in_state (map state_view l)) refl
    c.args.set.now.states.items i _ _ (subst (λ l. length l ≤ i) c.deref-state-items.ensures.value c.loop-state-test.false) c.loop-state.invariant
