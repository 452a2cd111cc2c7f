use Rattle.snl_machine.proofs.Worlds.{worlds_are_the_program}
use Rattle.snl_machine.proofs.laws.worlds_are_the_program.Goals as goal

pub returns : goal.returns
returns c = worlds_are_the_program
