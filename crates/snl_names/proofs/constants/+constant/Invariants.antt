use Rattle.std.proofs.Common.{◌≡◌, map, drop}
use Rattle.snl_syntax.specs.view.Lists.{term_list}
use Rattle.snl_syntax.specs.view.Expressions.{pair_of}
use Rattle.snl_names.specs.Constants.{constant_chain}
use Rattle.snl_names.specs.Scopes.{is_hidden}
use Rattle.snl_names.specs.Chains.{scopes_of}
use Rattle.snl_names.proofs.constants.+constant.Given as goal

-- what is left of the chain is worth what the whole is
abbrev pub invariant-chain_of-loop-term : goal.invariant-chain_of-loop-term
invariant-chain_of-loop-term l =
    constant_chain (is_hidden (scopes_of l.scopes)) (term_list (map pair_of (drop l.term-index l.terms))) l.left
    ≡ constant_chain (is_hidden (scopes_of l.scopes)) (term_list (map pair_of l.terms)) l.fn.first
