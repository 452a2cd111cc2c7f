use Rattle.snl_machine.proofs.SharedCells.{stores_write}
use Rattle.snl_machine.proofs.laws.stores_write.Goals as goal

pub returns : goal.returns
returns c = stores_write
