use Rattle.std.proofs.Common.{◌≡◌, map, drop}
use Rattle.snl_syntax.specs.view.Lists.{term_list}
use Rattle.snl_syntax.specs.view.Expressions.{pair_of}
use Rattle.snl_emit.specs.Worth.{worth_chain}
use Rattle.snl_emit.proofs.worth.+worth.Given as goal

-- what is left of the chain is worth what the whole is
abbrev pub invariant-worth_chain-loop-term : goal.invariant-worth_chain-loop-term
invariant-worth_chain-loop-term l =
    worth_chain l.sites (term_list (map pair_of (drop l.term-index l.terms))) l.left ≡ worth_chain l.sites (term_list (map pair_of l.terms)) l.fn.first
