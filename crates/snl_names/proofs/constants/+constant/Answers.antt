use Rattle.snl_names.proofs.ConstantLaws.{chain_worth}
use Rattle.snl_names.proofs.constants.+constant.Goals as goal

pub constant_of-returns-in-Chain : goal.constant_of-returns-in-Chain
constant_of-returns-in-Chain t c =
    chain_worth _ c.args.expression.now c.deref-in-Chain.result.now c.in-Chain.first c.in-Chain.terms c.as_slice.result.now c.constant_of-in-Chain.result c.chain_of.result
    c.in-Chain.is c.deref-in-Chain.ensures c.as_slice.ensures.value c.constant_of-in-Chain.ensures c.chain_of.ensures
