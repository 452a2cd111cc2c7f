use Rattle.snl_names.specs.UseTables.{declared_at}
use Rattle.snl_lints.proofs.ConstantLaws.{chain-worth}
use Rattle.snl_lints.proofs.constants.+worth.Goals as goal

pub worth_of-returns-in-Chain : goal.worth_of-returns-in-Chain
worth_of-returns-in-Chain t c =
    chain-worth (declared_at c.args.uses.now) c.args.expression.now c.deref-in-Chain.result.now c.in-Chain.first c.in-Chain.terms c.as_slice.result.now
    c.worth_of-in-Chain.result c.worth_of_chain.result c.in-Chain.is c.deref-in-Chain.ensures c.as_slice.ensures.value c.worth_of-in-Chain.ensures c.worth_of_chain.ensures
