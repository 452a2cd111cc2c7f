use Rattle.std.proofs.Common.{◌∷◌, [], Some, map, subst}
use Rattle.snl_alike.specs.Delays.{DelaysAmong, DelaysBehind, DelaysIn, IsShort}
use Rattle.snl_syntax.specs.declared.expressions.Expr.{Expr}
use Rattle.snl_syntax.specs.view.Expressions.{view, pair_of, list_before}
use Rattle.snl_syntax.specs.view.Lists.{term_list}
use Rattle.snl_syntax.specs.Expressions.{no_arguments}
use Rattle.snl_timing.proofs.Steps.{all-of, one-more}
use Rattle.snl_timing.proofs.DelayLaws.{argument-more, call-viewed, chain-viewed}
use Rattle.snl_timing.proofs.expressions.+expression.Goals as goal

pub are_short_in-returns-in-Call : goal.are_short_in-returns-in-Call
are_short_in-returns-in-Call t c = λ yes.
    call-viewed (IsShort (Some c.args.longest)) c.args.expression.now c.in-Call.name c.in-Call.arguments c.as_slice.result.now
    c.in-Call.is c.as_slice.ensures.value (c.is_short_called.ensures yes)

pub are_short_in-returns-then-are_short_in : goal.are_short_in-returns-then-are_short_in
are_short_in-returns-then-are_short_in t c = λ yes.
    chain-viewed (IsShort (Some c.args.longest)) c.args.expression.now c.deref-in-Chain.result.now c.in-Chain.first c.in-Chain.terms c.as_slice-then-are_short_in.result.now
    c.in-Chain.is c.deref-in-Chain.ensures c.as_slice-then-are_short_in.ensures.value (c.are_short_in-in-Chain.ensures c.if-are_short_in.true, c.are_short_behind.ensures yes)

pub are_short_behind-loop-term-preserved : goal.are_short_behind-loop-term-preserved
are_short_behind-loop-term-preserved t c =
    one-more (λ l. DelaysBehind (IsShort (Some c.args.longest)) (term_list (map pair_of l))) c.args.terms.now c.loop-term.term-index
    (λ x. DelaysIn (IsShort (Some c.args.longest)) (view x.operand.value)) (λ x rest a b. (a, b)) c.term-item.result c.loop-term-test.true c.term-item.is c.loop-term.invariant
    (subst (λ (e : Expr). DelaysIn (IsShort (Some c.args.longest)) (view e)) c.deref.ensures (c.are_short_in.ensures c.if-not-are_short_in.false))

pub are_short_behind-returns : goal.are_short_behind-returns
are_short_behind-returns t c = λ yes. all-of (λ l. DelaysBehind (IsShort (Some c.args.longest)) (term_list (map pair_of l))) c.args.terms.now
    c.loop-term.term-index tt c.loop-term-test.false c.loop-term.invariant

pub are_short_among-loop-argument-preserved : goal.are_short_among-loop-argument-preserved
are_short_among-loop-argument-preserved t c =
    one-more (λ l. DelaysAmong (IsShort (Some c.args.longest)) (list_before l no_arguments)) c.args.arguments.now c.loop-argument.argument-index
    (λ x. DelaysAmong (IsShort (Some c.args.longest)) (list_before (x ∷ []) no_arguments)) (argument-more (IsShort (Some c.args.longest))) c.argument-item.result
    c.loop-argument-test.true c.argument-item.is c.loop-argument.invariant
    (c.is_short_at.ensures c.if-not-is_short_at.false)

pub are_short_among-returns : goal.are_short_among-returns
are_short_among-returns t c = λ yes. all-of (λ l. DelaysAmong (IsShort (Some c.args.longest)) (list_before l no_arguments)) c.args.arguments.now
    c.loop-argument.argument-index tt c.loop-argument-test.false c.loop-argument.invariant
