use Rattle.snl_machine.proofs.Wakes.{wakes_lie_later}
use Rattle.snl_machine.proofs.laws.wakes_lie_later.Goals as goal

pub returns : goal.returns
returns c = wakes_lie_later
