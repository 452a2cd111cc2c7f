use Rattle.snl_machine.proofs.LaidOut.{worlds_are_laid_out}
use Rattle.snl_machine.proofs.laws.worlds_are_laid_out.Goals as goal

pub returns : goal.returns
returns c = worlds_are_laid_out
