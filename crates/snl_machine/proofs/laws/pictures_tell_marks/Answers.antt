use Rattle.snl_machine.proofs.Pictured.{pictures_tell_marks}
use Rattle.snl_machine.proofs.laws.pictures_tell_marks.Goals as goal

pub returns : goal.returns
returns c = pictures_tell_marks
