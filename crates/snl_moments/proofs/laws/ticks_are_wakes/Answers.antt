use Rattle.snl_moments.proofs.WakeLaws.{ticks-are-wakes}
use Rattle.snl_moments.proofs.laws.ticks_are_wakes.Goals as goal

pub returns : goal.returns
returns c = ticks-are-wakes
