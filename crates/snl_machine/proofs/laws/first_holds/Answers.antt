use Rattle.snl_machine.proofs.Beginning.{first_holds}
use Rattle.snl_machine.proofs.laws.first_holds.Goals as goal

pub returns : goal.returns
returns c = first_holds
