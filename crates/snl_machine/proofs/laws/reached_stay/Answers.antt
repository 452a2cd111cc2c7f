use Rattle.snl_machine.proofs.Reached.{reached_stay}
use Rattle.snl_machine.proofs.laws.reached_stay.Goals as goal

pub returns : goal.returns
returns c = reached_stay
