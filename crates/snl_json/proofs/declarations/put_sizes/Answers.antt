use Rattle.std.proofs.Common.{◌≡◌, ◌∙◌, ap, sym, arith, drop, map}
use Rattle.snl_syntax.specs.view.Expressions.{view, boxed}
use Rattle.snl_json.specs.Rows.{made, last, with_things}
use Rattle.snl_json.specs.Expressions.{with_expression}
use Rattle.snl_json.proofs.Lists.{list_none, things_more}
use Rattle.snl_json.proofs.declarations.put_sizes.Goals as goal

pub returns : goal.returns
returns c =
    let none : c.loop-number.number ≡ 0 = omega (arith, c.loop-number-test.false) in
    c.loop-number.invariant ∙ ap (λ n. with_things with_expression (map boxed (drop n c.args.sizes.now)) (made c.put_empty.new.rows.items)) none
    ∙ ap (λ r. with_things with_expression (map boxed c.args.sizes.now) r) c.in_ok-put_empty.ensures

pub loop-number-init : goal.loop-number-init
loop-number-init c = sym (list_none boxed with_expression c.args.sizes.now (made c.put_empty.new.rows.items))

pub loop-number-preserved : goal.loop-number-preserved
loop-number-preserved c =
    things_more boxed with_expression c.args.sizes.now c.loop-number.number c.index-sizes-number.result c.index-sizes-number.result c.last-others.result (made c.put_empty.new.rows.items)
    (made c.loop-number.rows.items) (made c.put_expression.new.rows.items) (made c.put_first.new.rows.items)
    c.loop-number-test.true (omega (arith, c.loop-number.auto.number)) c.index-sizes-number.is (c.last-others.ensures ∙ ap (λ s. last (made s)) c.as_slice.ensures.value)
    c.loop-number.invariant (c.in_ok-put_expression.ensures ∙ ap (λ e. with_expression (view e) (made c.loop-number.rows.items)) c.deref.ensures) c.in_ok-put_first.ensures
