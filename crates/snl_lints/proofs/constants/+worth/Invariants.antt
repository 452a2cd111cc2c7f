use Rattle.std.proofs.Common.{◌≡◌, map, drop}
use Rattle.snl_syntax.specs.view.Lists.{term_list}
use Rattle.snl_syntax.specs.view.Expressions.{pair_of}
use Rattle.snl_names.specs.UseTables.{declared_at}
use Rattle.snl_lints.specs.Constants.{worth_chain}
use Rattle.snl_lints.proofs.constants.+worth.Given as goal

-- what is left of the chain is worth what the whole is
abbrev pub invariant-worth_of_chain-loop-term : goal.invariant-worth_of_chain-loop-term
invariant-worth_of_chain-loop-term l =
    worth_chain (declared_at l.uses) (term_list (map pair_of (drop l.term-index l.terms))) l.left
    ≡ worth_chain (declared_at l.uses) (term_list (map pair_of l.terms)) l.fn.first
