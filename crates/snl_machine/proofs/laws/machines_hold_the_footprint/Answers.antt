use Rattle.snl_machine.proofs.Footprint.{machines_hold_the_footprint}
use Rattle.snl_machine.proofs.laws.machines_hold_the_footprint.Goals as goal

pub returns : goal.returns
returns c = machines_hold_the_footprint
