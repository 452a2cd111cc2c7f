use Rattle.snl_machine.proofs.Apart.{turns_stay_apart}
use Rattle.snl_machine.proofs.laws.turns_stay_apart.Goals as goal

pub returns : goal.returns
returns c = turns_stay_apart
