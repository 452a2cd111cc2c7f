use Rattle.std.proofs.Common.{◌≡◌, ◌∙◌, ap, sym, arith, drop, map}
use Rattle.snl_syntax.specs.view.Definitions.{definition_view}
use Rattle.snl_json.specs.Rows.{made, last, with_things}
use Rattle.snl_json.specs.Definitions.{with_definition}
use Rattle.snl_json.proofs.Lists.{list_none, things_more}
use Rattle.snl_json.proofs.definitions.put_definitions.Goals as goal

pub returns : goal.returns
returns c =
    let none : c.loop-number.number ≡ 0 = omega (arith, c.loop-number-test.false) in
    c.loop-number.invariant ∙ ap (λ n. with_things with_definition (map definition_view (drop n c.args.definitions.now)) (made c.put_empty.new.rows.items)) none
    ∙ ap (λ r. with_things with_definition (map definition_view c.args.definitions.now) r) c.in_ok-put_empty.ensures

pub loop-number-init : goal.loop-number-init
loop-number-init c = sym (list_none definition_view with_definition c.args.definitions.now (made c.put_empty.new.rows.items))

pub loop-number-preserved : goal.loop-number-preserved
loop-number-preserved c =
    let x = c.index-definitions-number.result in
    things_more definition_view with_definition c.args.definitions.now c.loop-number.number x x c.last-others.result (made c.put_empty.new.rows.items)
    (made c.loop-number.rows.items) (made c.put_definition.new.rows.items) (made c.put_first.new.rows.items)
    c.loop-number-test.true (omega (arith, c.loop-number.auto.number)) c.index-definitions-number.is (c.last-others.ensures ∙ ap (λ s. last (made s)) c.as_slice.ensures.value)
    c.loop-number.invariant c.in_ok-put_definition.ensures c.in_ok-put_first.ensures
