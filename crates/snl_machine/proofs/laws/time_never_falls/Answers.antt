use Rattle.snl_machine.proofs.Wakes.{time_never_falls}
use Rattle.snl_machine.proofs.laws.time_never_falls.Goals as goal

pub returns : goal.returns
returns c = time_never_falls
