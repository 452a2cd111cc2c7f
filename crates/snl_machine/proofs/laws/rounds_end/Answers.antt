use Rattle.snl_machine.proofs.Rounds.{rounds_end}
use Rattle.snl_machine.proofs.laws.rounds_end.Goals as goal

pub returns : goal.returns
returns c = rounds_end
