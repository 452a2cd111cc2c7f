use Rattle.std.proofs.Common.{◌≡◌, ◌∙◌, ◌++◌, ap, refl, sym, map, ◌+◌, ◌-◌, length, drop, inr, Vec, Global, arith}
use Rattle.std.proofs.lemmas.List.{length-drop}
use Rattle.std.proofs.lemmas.Result.{on_ok_weaker}
use Rattle.snl_syntax.specs.Expressions.{no_arguments, constant, parenthesized, named, element, postfix, prefix}
use Rattle.snl_syntax.specs.view.Expressions.{view, pair_of, argument_of, list_before}
use Rattle.snl_syntax.specs.view.Lists.{term_list}
use Rattle.snl_names.specs.declared.sites.Site.{Site}
use Rattle.snl_names.specs.Purposes.{in_parentheses}
use Rattle.snl_names.specs.Sites.{in_expression, in_terms, in_arguments}
use Rattle.snl_names.specs.Builtins.{builtin_of}
use Rattle.snl_names.specs.Calls.{word_at}
use Rattle.snl_resolve.specs.Seen.{sight_of}
use Rattle.snl_resolve.proofs.Steps.{row_step}
use Rattle.snl_resolve.proofs.WalkLaws.{form_noted, part_noted, conditional_noted, assignment_noted, call_noted, call_viewed, chain_noted, argument_step, value_noted, text_noted}
use Rattle.snl_resolve.proofs.expressions.+expression.Goals.{note_arguments-in-Value+in_ok-note_argument-in-Value, note_arguments-in-Text+in_ok-note_format-in-Text}
use Rattle.snl_resolve.proofs.expressions.+expression.Goals as goal

pub note_called-returns : goal.note_called-returns
note_called-returns t c =
    let word : c.word_at-word.result ≡ word_at (builtin_of c.args.name.text.now) = c.word_at-word.ensures ∙ ap word_at c.builtin_of.ensures in
    on_ok_weaker c.note_arguments.result
    (call_noted c.args.in_condition (sight_of c.args.sight.now) c.args.purpose c.in_ok-inside.inside c.word_at-word.result c.args.name
    c.args.arguments.now c.args.sites.now.items c.note_call.new.sites.items c.note_arguments.new.sites.items
    c.in_ok-inside.ensures.purpose c.in_ok-inside.ensures.sites word)
    c.note_arguments.ensures

pub note_expression-returns-in-Call : goal.note_expression-returns-in-Call
note_expression-returns-in-Call t c =
    on_ok_weaker c.note_called.result
    (call_viewed c.args.in_condition (sight_of c.args.sight.now) c.args.purpose c.args.expression.now c.in-Call.name c.in-Call.arguments
    c.as_slice-arguments.result.now c.args.sites.now.items c.note_called.new.sites.items c.in-Call.is c.as_slice-arguments.ensures.value)
    c.note_called.ensures

pub note_expression-returns-in_ok-note_expression-in-Chain : goal.note_expression-returns-in_ok-note_expression-in-Chain
note_expression-returns-in_ok-note_expression-in-Chain t c =
    on_ok_weaker c.note_terms.result
    (chain_noted c.args.in_condition (sight_of c.args.sight.now) c.args.purpose c.inner-inner.result c.inner-inner.result c.args.expression.now c.deref-in-Chain.result.now c.in-Chain.first
    c.in-Chain.terms c.as_slice.result.now c.args.sites.now.items c.note_expression-in-Chain.new.sites.items c.note_terms.new.sites.items
    c.in-Chain.is c.deref-in-Chain.ensures c.as_slice.ensures.value c.inner-inner.ensures c.inner-inner.ensures
    c.in_ok-note_expression-in-Chain.ensures)
    c.note_terms.ensures

pub note_arguments-loop-argument-preserved : goal.note_arguments-loop-argument-preserved
note_arguments-loop-argument-preserved t c =
    let s = sight_of c.args.sight.now in
    let all = c.args.arguments.now in
    let i = c.loop-argument.argument-index in
    let k = c.loop-argument.until in
    let a = c.argument-item.result in
    let rest = drop (i + 1) all in
    let count : c.loop-argument.left - 1 ≡ length rest = omega (arith, length-drop (i + 1) all) in
    let left : c.loop-argument.left - 1 + (i + 1) ≡ length all = omega arith in
    let less : c.saturating_sub-until.result ≡ k - 1 = c.saturating_sub-until.ensures in
    let step = argument_step c.args.in_condition s c.args.purpose k c.saturating_sub-until.result all i a c.loop-argument.sites.items in (
      (elim c.match-argument.branch [
        | note_arguments-in-Value+in_ok-note_argument-in-Value w ↦
            let is : argument_of a ≡ inr (view w.deref.result.now) = ap argument_of w.in-Value.is ∙ ap (λ e. inr (view e)) (sym w.deref.ensures) in
            ap (λ (v : Vec Site Global). v.items ++ in_arguments c.args.in_condition s c.args.purpose c.saturating_sub-until.result (list_before rest no_arguments)) w.sites-is
            ∙ step w.note_argument.new.sites.items _ _ c.loop-argument-test.true c.argument-item.is c.loop-argument.invariant.0 (w.in_ok-note_argument-in-Value.ensures)
            (value_noted c.args.in_condition s c.args.purpose k rest a (view w.deref.result.now) is) less
        | note_arguments-in-Text+in_ok-note_format-in-Text w ↦
            ap (λ (v : Vec Site Global). v.items ++ in_arguments c.args.in_condition s c.args.purpose c.saturating_sub-until.result (list_before rest no_arguments)) w.sites-is
            ∙ step w.note_format.new.sites.items _ _ c.loop-argument-test.true c.argument-item.is c.loop-argument.invariant.0 (w.in_ok-note_format-in-Text.ensures)
            (text_noted c.args.in_condition s c.args.purpose k rest a w.in-Text.format (c.loop-argument.left - 1) (ap argument_of w.in-Text.is) count) less
      ]),
      left,
    )

pub note_terms-loop-term-preserved : goal.note_terms-loop-term-preserved
note_terms-loop-term-preserved t c =
    let w = c.args.in_condition in
    let s = sight_of c.args.sight.now in
    let p = c.args.purpose in
    row_step (λ x. in_expression w s p (view x.operand.value)) (λ l. in_terms w s p (term_list (map pair_of l))) (λ x xs. refl)
    c.args.terms.now c.loop-term.term-index c.term-item.result c.loop-term.sites.items c.note_expression.new.sites.items _
    c.loop-term-test.true c.term-item.is c.loop-term.invariant
    (c.in_ok-note_expression.ensures ∙ ap (λ e. c.loop-term.sites.items ++ in_expression w s p (view e)) c.deref.ensures)

pub note_expression-returns-in-Constant : goal.note_expression-returns-in-Constant
note_expression-returns-in-Constant t c =
    on_ok_weaker c.note_constant.result
    (form_noted c.args.in_condition (sight_of c.args.sight.now) c.args.purpose c.args.expression.now (constant c.in-Constant.token) c.args.sites.now.items c.note_constant.new.sites.items
    (ap view c.in-Constant.is))
    c.note_constant.ensures

pub note_expression-returns-in-Named : goal.note_expression-returns-in-Named
note_expression-returns-in-Named t c =
    on_ok_weaker c.note_use.result
    (form_noted c.args.in_condition (sight_of c.args.sight.now) c.args.purpose c.args.expression.now (named c.in-Named.name) c.args.sites.now.items c.note_use.new.sites.items
    (ap view c.in-Named.is))
    c.note_use.ensures

pub note_expression-returns-in-Parenthesized : goal.note_expression-returns-in-Parenthesized
note_expression-returns-in-Parenthesized t c =
    let p = in_parentheses c.args.purpose in
    let e = c.in-Parenthesized.part.value in
    on_ok_weaker c.note_expression.result
    (λ h. form_noted c.args.in_condition (sight_of c.args.sight.now) c.args.purpose c.args.expression.now (parenthesized (view e)) c.args.sites.now.items c.note_expression.new.sites.items
    (ap view c.in-Parenthesized.is)
    (part_noted c.args.in_condition (sight_of c.args.sight.now) p c.in_parentheses.result e c.deref.result.now c.args.sites.now.items c.note_expression.new.sites.items
    c.in_parentheses.ensures c.deref.ensures h))
    c.note_expression.ensures

pub note_expression-returns-in-Element : goal.note_expression-returns-in-Element
note_expression-returns-in-Element t c =
    on_ok_weaker c.note_element.result
    (form_noted c.args.in_condition (sight_of c.args.sight.now) c.args.purpose c.args.expression.now (element c.in-Element.name c.in-Element.bracket (view
    c.deref-in-Element.result.now)) c.args.sites.now.items c.note_element.new.sites.items
    (ap view c.in-Element.is ∙ ap (λ x. element c.in-Element.name c.in-Element.bracket (view x)) (sym c.deref-in-Element.ensures)))
    c.note_element.ensures

pub note_expression-returns-in-Postfix : goal.note_expression-returns-in-Postfix
note_expression-returns-in-Postfix t c =
    on_ok_weaker c.note_changed.result
    (form_noted c.args.in_condition (sight_of c.args.sight.now) c.args.purpose c.args.expression.now (postfix (view c.deref-in-Postfix.result.now)
    c.in-Postfix.operator) c.args.sites.now.items c.note_changed.new.sites.items
    (ap view c.in-Postfix.is ∙ ap (λ x. postfix (view x) c.in-Postfix.operator) (sym c.deref-in-Postfix.ensures)))
    c.note_changed.ensures

pub note_expression-returns-in-Prefix : goal.note_expression-returns-in-Prefix
note_expression-returns-in-Prefix t c =
    on_ok_weaker c.note_prefixed.result
    (form_noted c.args.in_condition (sight_of c.args.sight.now) c.args.purpose c.args.expression.now (prefix c.in-Prefix.operator (view
    c.deref-in-Prefix.result.now)) c.args.sites.now.items c.note_prefixed.new.sites.items
    (ap view c.in-Prefix.is ∙ ap (λ x. prefix c.in-Prefix.operator (view x)) (sym c.deref-in-Prefix.ensures)))
    c.note_prefixed.ensures

pub note_expression-returns-in_ok-note_expression-in-Conditional-2 : goal.note_expression-returns-in_ok-note_expression-in-Conditional-2
note_expression-returns-in_ok-note_expression-in-Conditional-2 t c =
    on_ok_weaker c.note_expression-in-Conditional-3.result
    (conditional_noted c.args.in_condition (sight_of c.args.sight.now) c.args.purpose c.inner-inner.result c.args.expression.now
    c.deref-in-Conditional.result.now c.deref-in-Conditional-2.result.now c.deref-in-Conditional-3.result.now c.in-Conditional.condition c.in-Conditional.yes c.in-Conditional.no
    c.args.sites.now.items c.note_expression-in-Conditional.new.sites.items c.note_expression-in-Conditional-2.new.sites.items c.note_expression-in-Conditional-3.new.sites.items
    c.in-Conditional.is c.deref-in-Conditional.ensures c.deref-in-Conditional-2.ensures c.deref-in-Conditional-3.ensures c.inner-inner.ensures
    c.in_ok-note_expression-in-Conditional.ensures c.in_ok-note_expression-in-Conditional-2.ensures)
    c.note_expression-in-Conditional-3.ensures

pub note_expression-returns-in_ok-note_changed-in-Assignment : goal.note_expression-returns-in_ok-note_changed-in-Assignment
note_expression-returns-in_ok-note_changed-in-Assignment t c =
    on_ok_weaker c.note_expression-in-Assignment.result
    (assignment_noted c.args.in_condition (sight_of c.args.sight.now) c.args.purpose c.inner-inner.result c.args.expression.now
    c.deref-in-Assignment.result.now c.deref-in-Assignment-2.result.now c.in-Assignment.target c.in-Assignment.value c.in-Assignment.operator
    c.args.sites.now.items c.note_changed-in-Assignment.new.sites.items c.note_expression-in-Assignment.new.sites.items
    c.in-Assignment.is c.deref-in-Assignment.ensures c.deref-in-Assignment-2.ensures c.inner-inner.ensures
    c.in_ok-note_changed-in-Assignment.ensures)
    c.note_expression-in-Assignment.ensures
