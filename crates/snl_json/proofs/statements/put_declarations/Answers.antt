use Rattle.std.proofs.Common.{◌≡◌, ◌∙◌, ap, sym, arith, drop, map}
use Rattle.snl_syntax.specs.view.Declarations.{declaration_view}
use Rattle.snl_json.specs.Rows.{made, last, with_things}
use Rattle.snl_json.specs.Declarations.{with_declaration}
use Rattle.snl_json.proofs.Lists.{list_none, things_more}
use Rattle.snl_json.proofs.statements.put_declarations.Goals as goal

pub returns : goal.returns
returns c =
    let none : c.loop-number.number ≡ 0 = omega (arith, c.loop-number-test.false) in
    c.loop-number.invariant ∙ ap (λ n. with_things with_declaration (map declaration_view (drop n c.args.declarations.now)) (made c.put_empty.new.rows.items)) none
    ∙ ap (λ r. with_things with_declaration (map declaration_view c.args.declarations.now) r) c.in_ok-put_empty.ensures

pub loop-number-init : goal.loop-number-init
loop-number-init c = sym (list_none declaration_view with_declaration c.args.declarations.now (made c.put_empty.new.rows.items))

pub loop-number-preserved : goal.loop-number-preserved
loop-number-preserved c =
    let x = c.index-declarations-number.result in
    things_more declaration_view with_declaration c.args.declarations.now c.loop-number.number x x c.last-others.result (made c.put_empty.new.rows.items)
    (made c.loop-number.rows.items) (made c.put_declaration.new.rows.items) (made c.put_first.new.rows.items)
    c.loop-number-test.true (omega (arith, c.loop-number.auto.number)) c.index-declarations-number.is (c.last-others.ensures ∙ ap (λ s. last (made s)) c.as_slice.ensures.value)
    c.loop-number.invariant c.in_ok-put_declaration.ensures c.in_ok-put_first.ensures
