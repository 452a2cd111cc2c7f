use Rattle.snl_machine.proofs.Frames.{frame_stays}
use Rattle.snl_machine.proofs.laws.frame_stays.Goals as goal

pub returns : goal.returns
returns c = frame_stays
