use Rattle.snl_machine.proofs.Reached.{unreached_do_nothing}
use Rattle.snl_machine.proofs.laws.unreached_do_nothing.Goals as goal

pub returns : goal.returns
returns c = unreached_do_nothing
