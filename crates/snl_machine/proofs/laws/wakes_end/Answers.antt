use Rattle.snl_machine.proofs.Wakes.{wakes_end}
use Rattle.snl_machine.proofs.laws.wakes_end.Goals as goal

pub returns : goal.returns
returns c = wakes_end
