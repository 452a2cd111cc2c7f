use Rattle.snl_machine.proofs.Wakes.{wakes_stay_later}
use Rattle.snl_machine.proofs.laws.wakes_stay_later.Goals as goal

pub returns : goal.returns
returns c = wakes_stay_later
