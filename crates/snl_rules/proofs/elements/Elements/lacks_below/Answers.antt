use Rattle.std.proofs.Common.{not, sym, ap, arith}
use Rattle.snl_rules.specs.ElementTables.{element_in, front_in}
use Rattle.snl_rules.proofs.NamedLaws.{below_once, below_never, missing}
use Rattle.snl_rules.proofs.elements.Elements.lacks_below.Goals as goal

pub returns-then-not-contains : goal.returns-then-not-contains
returns-then-not-contains c =
    sym (below_once (λ k. not (element_in c.args.self.now c.args.variable k)) c.args.count c.loop-element.element c.loop-element-test.true
    (ap not (missing c.loop-element.element c.front_of-front.result (front_in c.args.self.now.fronts c.args.variable) _ c.contains.result
    c.front_of-front.ensures c.loop-element.auto.element c.contains.ensures c.if-not-contains.true)))

pub returns : goal.returns
returns c = sym (below_never (λ k. not (element_in c.args.self.now c.args.variable k)) c.args.count (λ k l. ap not (c.loop-element.invariant k (omega arith))))
