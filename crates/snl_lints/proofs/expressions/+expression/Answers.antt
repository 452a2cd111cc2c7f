use Rattle.std.proofs.Common.{◌∙◌, ◌++◌, ap, refl, sym, append-nil, [], ◌∷◌}
use Rattle.std.proofs.lemmas.Result.{on_ok_weaker}
use Rattle.snl_syntax.specs.Expressions.{no_arguments, constant, named, parenthesized, postfix}
use Rattle.snl_syntax.specs.view.Expressions.{view, list_before}
use Rattle.snl_names.specs.UseTables.{declared_at}
use Rattle.snl_lints.specs.Touches.{in_arguments, in_parentheses, when_faulting}
use Rattle.snl_lints.specs.declared.touches.Role.TheVariants.{Target}
use Rattle.snl_lints.proofs.TouchLaws.{row_step, form_added, part_added, element_added, prefix_added, conditional_added, assignment_added, call_viewed, chain_added, term_step, first_argument}
use Rattle.snl_lints.proofs.expressions.+expression.Goals as goal

pub push_expression-returns-in-Call : goal.push_expression-returns-in-Call
push_expression-returns-in-Call t c =
    on_ok_weaker c.push_called.result
    (call_viewed (declared_at c.args.uses.now) c.args.role c.args.expression.now c.in-Call.name c.in-Call.arguments c.as_slice.result.now
    c.args.found.now.items c.push_called.new.found.items c.in-Call.is c.as_slice.ensures.value)
    c.push_called.ensures

pub push_expression-returns-in_ok-push_expression-in-Chain :
    goal.push_expression-returns-in_ok-push_expression-in-Chain
push_expression-returns-in_ok-push_expression-in-Chain t c =
    on_ok_weaker c.push_operands.result
    (chain_added (declared_at c.args.uses.now) c.args.role c.args.expression.now c.deref-first.result.now c.in-Chain.first c.in-Chain.terms c.as_slice-in-Chain.result.now
    c.worth_of.result c.args.found.now.items c.push_expression-in-Chain.new.found.items c.push_operands.new.found.items
    c.in-Chain.is c.deref-first.ensures c.as_slice-in-Chain.ensures.value c.in_ok-push_expression-in-Chain.ensures c.worth_of.ensures)
    c.push_operands.ensures

pub push_arguments-loop-argument-preserved : goal.push_arguments-loop-argument-preserved
push_arguments-loop-argument-preserved t c =
    let r = c.args.role in
    let declared = declared_at c.args.uses.now in
    row_step (λ x. in_arguments declared r (list_before (x ∷ []) no_arguments)) (λ l. in_arguments declared r (list_before l no_arguments)) (first_argument declared r)
    c.args.arguments.now c.loop-argument.argument-index c.argument-item.result c.loop-argument.found.items c.push_argument.new.found.items _
    c.loop-argument-test.true c.argument-item.is c.loop-argument.invariant c.in_ok-push_argument.ensures

pub push_terms-loop-term-preserved : goal.push_terms-loop-term-preserved
push_terms-loop-term-preserved t c =
    term_step (declared_at c.args.uses.now) c.args.terms.now c.loop-term.term-index c.term-item.result c.deref-operand.result.now
    c.loop-term.left c.worth_of-right.result c.joined-left.result c.loop-term.found.items c.push_faulting.new.found.items c.push_expression.new.found.items _
    c.loop-term-test.true c.term-item.is c.deref-operand.ensures c.loop-term.invariant c.worth_of-right.ensures
    (c.in_ok-push_faulting.ensures ∙ ap (λ b. c.loop-term.found.items ++ when_faulting b c.term-item.result.operator) c.faults_between.ensures)
    c.in_ok-push_expression.ensures c.joined-left.ensures

pub push_expression-returns-in-Constant : goal.push_expression-returns-in-Constant
push_expression-returns-in-Constant t c = form_added (declared_at c.args.uses.now) c.args.role c.args.expression.now (constant c.in-Constant.field-0)
    c.args.found.now.items c.args.found.now.items (ap view c.in-Constant.is) (sym (append-nil c.args.found.now.items))

pub push_expression-returns-in-Named : goal.push_expression-returns-in-Named
push_expression-returns-in-Named t c =
    on_ok_weaker c.push_name.result
    (form_added (declared_at c.args.uses.now) c.args.role c.args.expression.now (named c.in-Named.name) c.args.found.now.items c.push_name.new.found.items (ap view c.in-Named.is))
    c.push_name.ensures

pub push_expression-returns-in-Parenthesized : goal.push_expression-returns-in-Parenthesized
push_expression-returns-in-Parenthesized t c =
    on_ok_weaker c.push_expression.result
    (λ h. form_added (declared_at c.args.uses.now) c.args.role c.args.expression.now (parenthesized (view c.in-Parenthesized.part.value)) c.args.found.now.items
    c.push_expression.new.found.items (ap view c.in-Parenthesized.is)
    (part_added (declared_at c.args.uses.now) (in_parentheses c.args.role) c.in_parentheses.result c.in-Parenthesized.part.value c.deref.result.now
    c.args.found.now.items c.push_expression.new.found.items c.in_parentheses.ensures c.deref.ensures h))
    c.push_expression.ensures

pub push_expression-returns-in_ok-push_element-in-Element : goal.push_expression-returns-in_ok-push_element-in-Element
push_expression-returns-in_ok-push_element-in-Element t c =
    on_ok_weaker c.push_expression-in-Element.result
    (element_added (declared_at c.args.uses.now) c.args.role c.args.expression.now c.deref-in-Element.result.now c.deref-in-Element-2.result.now c.in-Element.name
    c.in-Element.bracket c.in-Element.index
    c.args.found.now.items c.push_element.new.found.items c.push_expression-in-Element.new.found.items
    c.in-Element.is c.deref-in-Element.ensures c.deref-in-Element-2.ensures c.in_ok-push_element-in-Element.ensures)
    c.push_expression-in-Element.ensures

pub push_expression-returns-in-Postfix : goal.push_expression-returns-in-Postfix
push_expression-returns-in-Postfix t c =
    on_ok_weaker c.push_expression-in-Postfix.result
    (λ h. form_added (declared_at c.args.uses.now) c.args.role c.args.expression.now (postfix (view c.in-Postfix.target.value) c.in-Postfix.field-1)
    c.args.found.now.items c.push_expression-in-Postfix.new.found.items (ap view c.in-Postfix.is)
    (part_added (declared_at c.args.uses.now) Target Target c.in-Postfix.target.value c.deref-in-Postfix.result.now c.args.found.now.items
    c.push_expression-in-Postfix.new.found.items refl c.deref-in-Postfix.ensures h))
    c.push_expression-in-Postfix.ensures

pub push_expression-returns-in_ok-push_prefix-in-Prefix : goal.push_expression-returns-in_ok-push_prefix-in-Prefix
push_expression-returns-in_ok-push_prefix-in-Prefix t c =
    on_ok_weaker c.push_expression-in-Prefix.result
    (prefix_added (declared_at c.args.uses.now) c.args.role c.role_under.result c.args.expression.now c.deref-in-Prefix.result.now c.deref-in-Prefix-2.result.now
    c.in-Prefix.operator c.in-Prefix.operand
    c.args.found.now.items c.push_prefix.new.found.items c.push_expression-in-Prefix.new.found.items
    c.in-Prefix.is c.deref-in-Prefix.ensures c.deref-in-Prefix-2.ensures c.role_under.ensures c.in_ok-push_prefix-in-Prefix.ensures)
    c.push_expression-in-Prefix.ensures

pub push_expression-returns-in_ok-push_expression-in-Conditional-2 : goal.push_expression-returns-in_ok-push_expression-in-Conditional-2
push_expression-returns-in_ok-push_expression-in-Conditional-2 t c =
    on_ok_weaker c.push_expression-in-Conditional-3.result
    (conditional_added (declared_at c.args.uses.now) c.args.role c.args.expression.now c.deref-in-Conditional.result.now c.deref-in-Conditional-2.result.now c.deref-in-Conditional-3.result.now
    c.in-Conditional.condition c.in-Conditional.yes c.in-Conditional.no c.args.found.now.items c.push_expression-in-Conditional.new.found.items
    c.push_expression-in-Conditional-2.new.found.items c.push_expression-in-Conditional-3.new.found.items
    c.in-Conditional.is c.deref-in-Conditional.ensures c.deref-in-Conditional-2.ensures c.deref-in-Conditional-3.ensures
    c.in_ok-push_expression-in-Conditional.ensures c.in_ok-push_expression-in-Conditional-2.ensures)
    c.push_expression-in-Conditional-3.ensures

pub push_expression-returns-in_ok-push_operator-in-Assignment : goal.push_expression-returns-in_ok-push_operator-in-Assignment
push_expression-returns-in_ok-push_operator-in-Assignment t c =
    on_ok_weaker c.push_expression-in-Assignment-2.result
    (assignment_added (declared_at c.args.uses.now) c.args.role c.args.expression.now c.deref-in-Assignment.result.now c.deref-in-Assignment-2.result.now
    c.deref-in-Assignment-3.result.now c.deref-in-Assignment-4.result.now c.deref-in-Assignment-5.result.now
    c.in-Assignment.target c.in-Assignment.value c.in-Assignment.operator c.args.found.now.items c.push_given.new.found.items
    c.push_expression-in-Assignment.new.found.items c.push_operator.new.found.items c.push_expression-in-Assignment-2.new.found.items
    c.in-Assignment.is c.deref-in-Assignment.ensures c.deref-in-Assignment-2.ensures c.deref-in-Assignment-3.ensures c.deref-in-Assignment-4.ensures c.deref-in-Assignment-5.ensures
    c.in_ok-push_given-in-Assignment.ensures c.in_ok-push_expression-in-Assignment.ensures c.in_ok-push_operator-in-Assignment.ensures)
    c.push_expression-in-Assignment-2.ensures
