use Rattle.snl_machine.proofs.Pictured.{pictures_are_of_the_programs}
use Rattle.snl_machine.proofs.laws.pictures_are_of_the_programs.Goals as goal

pub returns : goal.returns
returns c = pictures_are_of_the_programs
