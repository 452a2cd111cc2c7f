use Rattle.snl_machine.proofs.Reached.{instants_are_the_same}
use Rattle.snl_machine.proofs.laws.instants_are_the_same.Goals as goal

pub returns : goal.returns
returns c = instants_are_the_same
