use Rattle.snl_meaning.proofs.Turns.{turns-enough}
use Rattle.snl_meaning.proofs.laws.turns_are_enough.Goals as goal

pub returns : goal.returns
returns c = turns-enough
