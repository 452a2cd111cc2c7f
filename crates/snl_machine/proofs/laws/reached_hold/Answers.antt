use Rattle.snl_machine.proofs.Lines.{reached_hold}
use Rattle.snl_machine.proofs.laws.reached_hold.Goals as goal

pub returns : goal.returns
returns c = reached_hold
