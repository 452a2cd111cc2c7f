use Rattle.std.proofs.Common.{◌≡◌, ◌∙◌, ◌<◌, ◌≤◌, true, ap, get_or, length, map, refl, subst, sym}
use Rattle.std.proofs.lemmas.List.{length-map, take_all}
use Rattle.snl_syntax.specs.view.Programs.{state_view}
use Rattle.snl_reach.specs.Marks.{AreReached}
use Rattle.snl_outline.specs.Told.{state_said, state_told}
use Rattle.snl_outline.proofs.Marked.{next-mark}
use Rattle.snl_outline.proofs.Rows.{next-shown, no-more}
use Rattle.snl_outline.proofs.shapes.state_outlines.Goals as goal

pub loop-number-preserved : goal.loop-number-preserved
loop-number-preserved c =
    let long : length c.in_ok-reached.reached.items ≡ length c.args.states.now = c.in_ok-reached.ensures.long ∙ length-map c.args.states.now state_view in (
      next-shown state_said (λ x. state_told (state_view x)) (λ l. map state_told (map state_view l)) (λ x xs. refl)
          c.args.states.now c.loop-number.number c.index-states-number.result c.loop-number.outlines.items c.pushed.new.row.items c.in_ok-outline.outline _
          c.loop-number-test.true c.index-states-number.is c.loop-number.invariant.0 c.in_ok-pushed.ensures c.in_ok-outline.ensures.told,
      next-mark c.in_ok-reached.reached.items c.loop-number.number c.is_marked.result c.loop-number.outlines.items c.pushed.new.row.items c.in_ok-outline.outline
          (subst (λ n. c.loop-number.number < n) (sym long) c.loop-number-test.true)
          (c.is_marked.ensures ∙ ap (λ l. get_or l c.loop-number.number true) c.deref.ensures.value) c.loop-number.invariant.1 c.in_ok-pushed.ensures c.in_ok-outline.ensures.reached,
    )

pub returns-clause-told : goal.returns-clause-told
returns-clause-told c =
    no-more (λ n l. map state_told (map state_view l)) (λ n. refl) c.args.states.now c.loop-number.number (map state_said c.loop-number.outlines.items) _
    c.loop-number-test.false c.loop-number.invariant.0

pub returns-clause-reached : goal.returns-clause-reached
returns-clause-reached c =
    let long : length c.in_ok-reached.reached.items ≡ length c.args.states.now = c.in_ok-reached.ensures.long ∙ length-map c.args.states.now state_view in
    let all = take_all c.loop-number.number c.in_ok-reached.reached.items (subst (λ n. n ≤ c.loop-number.number) (sym long) c.loop-number-test.false) in
    subst (λ l. AreReached (map state_view c.args.states.now) l) (sym (c.loop-number.invariant.1 ∙ all)) c.in_ok-reached.ensures
