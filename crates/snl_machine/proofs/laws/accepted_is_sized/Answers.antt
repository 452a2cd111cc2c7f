use Rattle.snl_machine.proofs.Sized.{accepted_is_sized}
use Rattle.snl_machine.proofs.laws.accepted_is_sized.Goals as goal

pub returns : goal.returns
returns c = accepted_is_sized
