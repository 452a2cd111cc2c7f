use Rattle.std.proofs.Common.{◌≡◌, ◌∙◌, ap, sym, refl, arith, drop, map}
use Rattle.snl_syntax.specs.view.Functions.{parameter_view}
use Rattle.snl_json.specs.Rows.{made, last, with_things}
use Rattle.snl_json.specs.Functions.{with_parameter}
use Rattle.snl_json.proofs.Lists.{list_none, things_more}
use Rattle.snl_json.proofs.functions.put_each_parameter.Goals as goal

pub returns : goal.returns
returns c =
    let none : c.loop-number.number ≡ 0 = omega (arith, c.loop-number-test.false) in
    c.loop-number.invariant ∙ ap (λ n. with_things with_parameter (map parameter_view (drop n c.args.parameters.now)) (made c.put_empty.new.rows.items)) none
    ∙ ap (λ r. with_things with_parameter (map parameter_view c.args.parameters.now) r) c.in_ok-put_empty.ensures

pub loop-number-init : goal.loop-number-init
loop-number-init c = sym (list_none parameter_view with_parameter c.args.parameters.now (made c.put_empty.new.rows.items))

pub loop-number-preserved : goal.loop-number-preserved
loop-number-preserved c =
    things_more parameter_view with_parameter c.args.parameters.now c.loop-number.number _ _ c.last-others.result (made c.put_empty.new.rows.items)
    (made c.loop-number.rows.items) (made c.put_parameter.new.rows.items) (made c.put_first.new.rows.items)
    c.loop-number-test.true (omega (arith, c.loop-number.auto.number)) refl (c.last-others.ensures ∙ ap (λ s. last (made s)) c.as_slice.ensures.value)
    c.loop-number.invariant c.in_ok-put_parameter.ensures c.in_ok-put_first.ensures
