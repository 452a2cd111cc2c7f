use Rattle.std.proofs.Common.{Some, map, subst}
use Rattle.snl_alike.specs.Delays.{DelaysEach, DelaysIn, IsShort}
use Rattle.snl_syntax.specs.declared.expressions.Expr.{Expr}
use Rattle.snl_syntax.specs.view.Expressions.{boxed, view}
use Rattle.snl_timing.proofs.Steps.{all-of, one-more}
use Rattle.snl_timing.proofs.expressions.are_short_each.Goals as goal

pub loop-value-preserved : goal.loop-value-preserved
loop-value-preserved c =
    one-more (λ l. DelaysEach (IsShort (Some c.args.longest)) (map boxed l)) c.args.values.now c.loop-value.value-index
    (λ x. DelaysIn (IsShort (Some c.args.longest)) (boxed x)) (λ x rest a b. (a, b)) c.value-item.result c.loop-value-test.true c.value-item.is c.loop-value.invariant
    (subst (λ (e : Expr). DelaysIn (IsShort (Some c.args.longest)) (view e)) c.deref.ensures (c.are_short_in.ensures c.if-not-are_short_in.false))

pub returns : goal.returns
returns c = λ yes. all-of (λ l. DelaysEach (IsShort (Some c.args.longest)) (map boxed l)) c.args.values.now c.loop-value.value-index tt c.loop-value-test.false c.loop-value.invariant
