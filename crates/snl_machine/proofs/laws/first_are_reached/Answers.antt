use Rattle.snl_machine.proofs.Reached.{first_are_reached}
use Rattle.snl_machine.proofs.laws.first_are_reached.Goals as goal

pub returns : goal.returns
returns c = first_are_reached
