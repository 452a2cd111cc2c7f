use Rattle.std.proofs.Common.{◌≡◌, ◌∙◌, ap, sym, arith, drop, map}
use Rattle.snl_syntax.specs.view.Programs.{state_view}
use Rattle.snl_json.specs.Rows.{made, last, with_things}
use Rattle.snl_json.specs.Programs.{with_state}
use Rattle.snl_json.proofs.Lists.{list_none, things_more}
use Rattle.snl_json.proofs.programs.put_states.Goals as goal

pub returns : goal.returns
returns c =
    let none : c.loop-number.number ≡ 0 = omega (arith, c.loop-number-test.false) in
    c.loop-number.invariant ∙ ap (λ n. with_things with_state (map state_view (drop n c.args.states.now)) (made c.put_empty.new.rows.items)) none
    ∙ ap (λ r. with_things with_state (map state_view c.args.states.now) r) c.in_ok-put_empty.ensures

pub loop-number-init : goal.loop-number-init
loop-number-init c = sym (list_none state_view with_state c.args.states.now (made c.put_empty.new.rows.items))

pub loop-number-preserved : goal.loop-number-preserved
loop-number-preserved c =
    things_more state_view with_state c.args.states.now c.loop-number.number c.index-states-number.result c.index-states-number.result c.last-others.result (made c.put_empty.new.rows.items)
    (made c.loop-number.rows.items) (made c.put_state.new.rows.items) (made c.put_first.new.rows.items)
    c.loop-number-test.true (omega (arith, c.loop-number.auto.number)) c.index-states-number.is (c.last-others.ensures ∙ ap (λ s. last (made s)) c.as_slice.ensures.value)
    c.loop-number.invariant c.in_ok-put_state.ensures c.in_ok-put_first.ensures
