use Rattle.snl_machine.proofs.Anew.{ticks_and_due_are_anew}
use Rattle.snl_machine.proofs.laws.ticks_and_due_are_anew.Goals as goal

pub returns : goal.returns
returns c = ticks_and_due_are_anew
