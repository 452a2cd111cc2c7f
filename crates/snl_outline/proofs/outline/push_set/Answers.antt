use Rattle.std.proofs.Common.{◌∙◌, ◌<◌, ◌≤◌, ap, get_or, length, map, refl, subst}
use Rattle.snl_syntax.specs.view.Programs.{state_view}
use Rattle.snl_outline.specs.Outline.{state_line, states_text}
use Rattle.snl_outline.proofs.Rows.{next-text, no-more}
use Rattle.snl_outline.proofs.outline.push_set.Goals as goal

pub loop-number-init : goal.loop-number-init
loop-number-init c = refl

pub loop-number-preserved : goal.loop-number-preserved
loop-number-preserved c =
    let name = c.args.set.now.name.text.now in
    let i = c.loop-number.number in
    let state = c.state-item.result in
    let all = c.as_slice-state-items.ensures.value in
    next-text (λ n l. states_text c.args.form name n (map state_view l)) (λ n s. state_line c.args.form name n (state_view s).name) (λ n x xs. refl)
    c.args.set.now.states.items i state c.loop-number.out.items c.push_state.new.out.items _
    (subst (λ l. i < length l) all c.loop-number-test.true) (c.state-item.is ∙ ap (λ l. get_or l i state) all) c.loop-number.invariant c.in_ok-push_state.ensures

pub returns : goal.returns
returns c =
    let i = c.loop-number.number in
    no-more (λ n l. states_text c.args.form c.args.set.now.name.text.now n (map state_view l)) (λ n. refl) c.args.set.now.states.items i c.loop-number.out.items _
    (subst (λ l. length l ≤ i) c.as_slice-state-items.ensures.value c.loop-number-test.false) c.loop-number.invariant
