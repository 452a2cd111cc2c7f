use Rattle.std.proofs.Common.{◌∙◌, ap, drop, map, sym}
use Rattle.snl_syntax.specs.view.Expressions.{pair_of}
use Rattle.snl_syntax.specs.view.Lists.{term_list}
use Rattle.snl_emit.specs.Worth.{worth_chain}
use Rattle.snl_emit.proofs.WorthLaws.{chain-varies, chain-worth}
use Rattle.snl_emit.proofs.worth.+worth.Goals as goal

pub worth_of-returns-in-Chain : goal.worth_of-returns-in-Chain
worth_of-returns-in-Chain t c =
    chain-worth c.args.sites.now c.args.expression.now c.deref-in-Chain.result.now c.in-Chain.first c.in-Chain.terms c.as_slice.result.now c.worth_of-in-Chain.result c.worth_chain.result
    c.in-Chain.is c.deref-in-Chain.ensures c.as_slice.ensures.value c.worth_of-in-Chain.ensures c.worth_chain.ensures

pub worth_chain-returns-in-Varies : goal.worth_chain-returns-in-Varies
worth_chain-returns-in-Varies t c =
    let rest = term_list (map pair_of (drop c.loop-term.term-index c.args.terms.now)) in
    sym (chain-varies c.args.sites.now rest) ∙ ap (worth_chain c.args.sites.now rest) (sym c.in-Varies.is) ∙ c.loop-term.invariant
