use Rattle.std.proofs.Common.{◌≡◌, ◌∙◌, ap, sym, arith, drop, map}
use Rattle.snl_syntax.specs.view.Programs.{state_set_view}
use Rattle.snl_json.specs.Rows.{made, last, with_things}
use Rattle.snl_json.specs.Programs.{with_state_set}
use Rattle.snl_json.proofs.Lists.{list_none, things_more}
use Rattle.snl_json.proofs.programs.put_state_sets.Goals as goal

pub returns : goal.returns
returns c =
    let none : c.loop-number.number ≡ 0 = omega (arith, c.loop-number-test.false) in
    c.loop-number.invariant ∙ ap (λ n. with_things with_state_set (map state_set_view (drop n c.args.sets.now)) (made c.put_empty.new.rows.items)) none
    ∙ ap (λ r. with_things with_state_set (map state_set_view c.args.sets.now) r) c.in_ok-put_empty.ensures

pub loop-number-init : goal.loop-number-init
loop-number-init c = sym (list_none state_set_view with_state_set c.args.sets.now (made c.put_empty.new.rows.items))

pub loop-number-preserved : goal.loop-number-preserved
loop-number-preserved c =
    things_more state_set_view with_state_set c.args.sets.now c.loop-number.number c.index-sets-number.result c.index-sets-number.result c.last-others.result (made c.put_empty.new.rows.items)
    (made c.loop-number.rows.items) (made c.put_state_set.new.rows.items) (made c.put_first.new.rows.items)
    c.loop-number-test.true (omega (arith, c.loop-number.auto.number)) c.index-sets-number.is (c.last-others.ensures ∙ ap (λ s. last (made s)) c.as_slice.ensures.value)
    c.loop-number.invariant c.in_ok-put_state_set.ensures c.in_ok-put_first.ensures
