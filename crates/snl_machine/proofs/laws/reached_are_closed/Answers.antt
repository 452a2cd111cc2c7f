use Rattle.snl_machine.proofs.Reached.{reached_are_closed}
use Rattle.snl_machine.proofs.laws.reached_are_closed.Goals as goal

pub returns : goal.returns
returns c = reached_are_closed
