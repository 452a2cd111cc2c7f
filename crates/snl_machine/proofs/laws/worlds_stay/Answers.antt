use Rattle.snl_machine.proofs.Worlds.{worlds_stay}
use Rattle.snl_machine.proofs.laws.worlds_stay.Goals as goal

pub returns : goal.returns
returns c = worlds_stay
