use Rattle.snl_machine.proofs.Bounds.{instants_are_bounded}
use Rattle.snl_machine.proofs.laws.instants_are_bounded.Goals as goal

pub returns : goal.returns
returns c = instants_are_bounded
