use Rattle.snl_machine.proofs.Lines.{events_fit}
use Rattle.snl_machine.proofs.laws.events_fit.Goals as goal

pub returns : goal.returns
returns c = events_fit
