use Rattle.std.proofs.Common.{◌≡◌, ◌∙◌, ◌∷◌, ◌++◌, ap, arith, drop, map, reverse, to_z, of_z, w64, rules}
use Rattle.std.proofs.lemmas.Result.{on_ok_weaker}
use Rattle.snl_syntax.specs.Expressions.{no_arguments, constant, named}
use Rattle.snl_meaning.specs.declared.instrs.Instr.TheVariants.{Push}
use Rattle.snl_syntax.specs.view.Expressions.{view, pair_of, list_before}
use Rattle.snl_syntax.specs.view.Lists.{term_list}
use Rattle.snl_emit.specs.ExpressionCode.{name_code, terms_code, values_code}
use Rattle.snl_meaning.specs.Known.{here_of}
use Rattle.snl_emit.proofs.Emitting.{none-is, form-made, parenthesized-made, element-made, prefix-number-made, conditional-number-made, assigned-made, postfix-made, prefix-made, chain-made, conditional-made, call-made, put-made, ask-made}
use Rattle.snl_emit.proofs.+emission.Goals as goal

pub emission::emit_expression-returns-in-Call : goal.emission::emit_expression-returns-in-Call
emission::emit_expression-returns-in-Call t c =
    on_ok_weaker c.emit_call.result
    (call-made (here_of c.args.known.now) c.args.expression.now c.in-Call.name c.in-Call.arguments c.as_slice.result.now
    (reverse c.args.code.now.items) (reverse c.emit_call.new.code.items) c.in-Call.is c.as_slice.ensures.value)
    c.emit_call.ensures

pub emission::emit_expression-returns-in-Postfix : goal.emission::emit_expression-returns-in-Postfix
emission::emit_expression-returns-in-Postfix t c =
    on_ok_weaker c.emit_sign.result
    (postfix-made (here_of c.args.known.now) c.args.expression.now c.deref-in-Postfix.result.now c.in-Postfix.target c.in-Postfix.operator
    (reverse c.args.code.now.items) (reverse c.emit_sign.new.code.items) c.in-Postfix.is c.deref-in-Postfix.ensures)
    c.emit_sign.ensures

pub emission::emit_expression-returns-in-None : goal.emission::emit_expression-returns-in-None
emission::emit_expression-returns-in-None t c =
    on_ok_weaker c.emit_sign-in-None.result
    (prefix-made (here_of c.args.known.now) c.args.expression.now c.deref-in-None.result.now c.in-Prefix.operand c.in-Prefix.operator c.constant_number.result
    (reverse c.args.code.now.items) (reverse c.emit_sign-in-None.new.code.items) c.in-Prefix.is c.deref-in-None.ensures c.constant_number.ensures (none-is c.constant_number.result c.in-None.is))
    c.emit_sign-in-None.ensures

pub emission::emit_expression-returns-in_ok-emit_terms-in-Chain : goal.emission::emit_expression-returns-in_ok-emit_terms-in-Chain
emission::emit_expression-returns-in_ok-emit_terms-in-Chain t c =
    on_ok_weaker c.emit_front.result
    (chain-made (here_of c.args.known.now) c.args.expression.now c.deref-in-Chain.result.now c.deref-in-Chain-2.result.now c.in-Chain.first c.in-Chain.terms
    c.as_slice-in-Chain.result.now c.as_slice-in-Chain-2.result.now c.front_of-front.result.terms c.worth_of.result c.front_of-front.result.number
    (reverse c.args.code.now.items) (reverse c.emit_terms.new.code.items) (reverse c.emit_front.new.code.items)
    c.in-Chain.is c.deref-in-Chain.ensures c.deref-in-Chain-2.ensures c.as_slice-in-Chain.ensures.value c.as_slice-in-Chain-2.ensures.value c.worth_of.ensures
    c.front_of-front.ensures.code c.in_ok-emit_terms-in-Chain.ensures)
    c.emit_front.ensures

pub emission::emit_expression-returns-in_ok-emit_held-in-Conditional : goal.emission::emit_expression-returns-in_ok-emit_held-in-Conditional
emission::emit_expression-returns-in_ok-emit_held-in-Conditional t c =
    on_ok_weaker c.emit_expression-in-Conditional.result
    (conditional-made (here_of c.args.known.now) c.args.expression.now c.deref-in-Conditional.result.now c.deref-in-Conditional-2.result.now c.deref-in-Conditional-3.result.now
    c.in-Conditional.condition c.in-Conditional.yes c.in-Conditional.no c.constant_number-in-Conditional.result
    (reverse c.args.code.now.items) (reverse c.emit_failed.new.code.items) (reverse c.emit_held.new.code.items) (reverse c.emit_expression-in-Conditional.new.code.items)
    c.in-Conditional.is c.deref-in-Conditional.ensures c.deref-in-Conditional-2.ensures c.deref-in-Conditional-3.ensures c.constant_number-in-Conditional.ensures c.in_default.not-Some
    c.in_ok-emit_failed-in-Conditional.ensures c.in_ok-emit_held-in-Conditional.ensures)
    c.emit_expression-in-Conditional.ensures

pub emission::emit_expression-returns-in_ok-emit_expression-in-Assignment : goal.emission::emit_expression-returns-in_ok-emit_expression-in-Assignment
emission::emit_expression-returns-in_ok-emit_expression-in-Assignment t c =
    on_ok_weaker c.emit_place.result
    (assigned-made (here_of c.args.known.now) c.args.expression.now c.in-Assignment.target c.in-Assignment.value
    c.deref-in-Assignment.result.now c.deref-in-Assignment-2.result.now c.deref-in-Assignment-3.result.now c.in-Assignment.operator c.compound_of-joined.result
    (reverse c.args.code.now.items) (reverse c.put_stored.new.code.items) (reverse c.emit_expression-in-Assignment.new.code.items) (reverse c.emit_place.new.code.items)
    c.in-Assignment.is c.compound_of-joined.ensures c.deref-in-Assignment.ensures c.deref-in-Assignment-2.ensures c.deref-in-Assignment-3.ensures
    c.in_ok-put_stored-in-Assignment.ensures c.in_ok-emit_expression-in-Assignment.ensures)
    c.emit_place.ensures

pub emission::emit_terms-returns : goal.emission::emit_terms-returns
emission::emit_terms-returns t c =
    let h = here_of c.args.known.now in
    let all = c.args.terms.now in
    let first : c.loop-number.number ≡ c.args.start = omega (arith, c.loop-number-test.false, c.loop-number.invariant.1) in
    c.loop-number.invariant.0 ∙ ap (λ n. terms_code h (term_list (map pair_of (drop n all))) ++ reverse c.args.code.now.items) first

pub calls::emit_values-returns : goal.calls::emit_values-returns
calls::emit_values-returns t c =
    let h = here_of c.args.known.now in
    let all = c.args.arguments.now in
    let none : c.loop-number.number ≡ 0 = omega (arith, c.loop-number-test.false) in
    c.loop-number.invariant ∙ ap (λ n. values_code h (list_before (drop n all) no_arguments) ++ reverse c.args.code.now.items) none

pub calls::emit_put_of-returns : goal.calls::emit_put_of-returns
calls::emit_put_of-returns t c =
    on_ok_weaker c.emit_place.result
    (put-made (here_of c.args.known.now) c.args.is_async (view c.args.target.now)
    (reverse c.args.code.now.items) (reverse c.put.new.code.items) (reverse c.emit_place.new.code.items)
    (c.in_ok-put.ensures ∙ ap (λ i. i ∷ reverse c.args.code.now.items) c.put_instr.ensures))
    c.emit_place.ensures

pub calls::emit_ask_of-returns : goal.calls::emit_ask_of-returns
calls::emit_ask_of-returns t c =
    on_ok_weaker c.emit_place.result
    (ask-made (here_of c.args.known.now) c.args.query (view c.args.target.now)
    (reverse c.args.code.now.items) (reverse c.put.new.code.items) (reverse c.emit_place.new.code.items)
    (c.in_ok-put.ensures ∙ ap (λ i. i ∷ reverse c.args.code.now.items) c.ask_instr.ensures))
    c.emit_place.ensures

pub emission::emit_expression-returns-in-Constant : goal.emission::emit_expression-returns-in-Constant
emission::emit_expression-returns-in-Constant t c =
    let same : to_z w64 (of_z w64 c.constant_of.result) ≡ c.constant_of.result = search rules in
    on_ok_weaker c.put.result
    (λ h. form-made (here_of c.args.known.now) c.args.expression.now (constant c.in-Constant.token) (reverse c.args.code.now.items) (reverse c.put.new.code.items) (ap view c.in-Constant.is)
    (h ∙ ap (λ z. Push z ∷ reverse c.args.code.now.items) (same ∙ c.constant_of.ensures)))
    c.put.ensures

pub emission::emit_expression-returns-in-Parenthesized : goal.emission::emit_expression-returns-in-Parenthesized
emission::emit_expression-returns-in-Parenthesized t c =
    on_ok_weaker c.emit_expression.result
    (parenthesized-made (here_of c.args.known.now) c.args.expression.now c.deref.result.now c.in-Parenthesized.inner (reverse c.args.code.now.items) (reverse
    c.emit_expression.new.code.items) c.in-Parenthesized.is c.deref.ensures)
    c.emit_expression.ensures

pub emission::emit_expression-returns-in-Named : goal.emission::emit_expression-returns-in-Named
emission::emit_expression-returns-in-Named t c =
    on_ok_weaker c.put-in-Named.result
    (λ h. form-made (here_of c.args.known.now) c.args.expression.now (named c.in-Named.name) (reverse c.args.code.now.items) (reverse c.put-in-Named.new.code.items) (ap view c.in-Named.is)
    (h ∙ ap (λ i. i ∷ reverse c.args.code.now.items) (c.read_name.ensures ∙ ap name_code c.sense_in.ensures)))
    c.put-in-Named.ensures

pub emission::emit_expression-returns-in-Element : goal.emission::emit_expression-returns-in-Element
emission::emit_expression-returns-in-Element t c =
    on_ok_weaker c.emit_element.result
    (element-made (here_of c.args.known.now) c.args.expression.now c.deref-in-Element.result.now c.in-Element.name c.in-Element.bracket c.in-Element.index (reverse
    c.args.code.now.items) (reverse c.emit_element.new.code.items)
    c.in-Element.is c.deref-in-Element.ensures)
    c.emit_element.ensures

pub emission::emit_expression-returns-in-Some : goal.emission::emit_expression-returns-in-Some
emission::emit_expression-returns-in-Some t c =
    let same : to_z w64 (of_z w64 c.in-Some.number) ≡ c.in-Some.number = search rules in
    on_ok_weaker c.put-in-Some.result
    (λ h. prefix-number-made (here_of c.args.known.now) c.args.expression.now c.in-Prefix.operand c.in-Prefix.operator c.constant_number.result c.in-Some.number
    (reverse c.args.code.now.items) (reverse c.put-in-Some.new.code.items)
    c.in-Prefix.is c.constant_number.ensures c.in-Some.is (h ∙ ap (λ z. Push z ∷ reverse c.args.code.now.items) same))
    c.put-in-Some.ensures

pub emission::emit_expression-returns-in-Some-constant_number : goal.emission::emit_expression-returns-in-Some-constant_number
emission::emit_expression-returns-in-Some-constant_number t c =
    let same : to_z w64 (of_z w64 c.in-Some-constant_number.number) ≡ c.in-Some-constant_number.number = search rules in
    on_ok_weaker c.put-in-Some-constant_number.result
    (λ h. conditional-number-made (here_of c.args.known.now) c.args.expression.now c.in-Conditional.condition c.in-Conditional.yes c.in-Conditional.no
    c.constant_number-in-Conditional.result c.in-Some-constant_number.number (reverse c.args.code.now.items) (reverse c.put-in-Some-constant_number.new.code.items)
    c.in-Conditional.is c.constant_number-in-Conditional.ensures c.in-Some-constant_number.is (h ∙ ap (λ z. Push z ∷ reverse c.args.code.now.items) same))
    c.put-in-Some-constant_number.ensures
