use Rattle.snl_machine.proofs.Pictured.{pictures_are_apart}
use Rattle.snl_machine.proofs.laws.pictures_are_apart.Goals as goal

pub returns : goal.returns
returns c = pictures_are_apart
