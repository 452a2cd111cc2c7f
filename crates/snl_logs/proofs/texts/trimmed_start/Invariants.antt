use Rattle.std.proofs.Common.{length}
use Rattle.snl_logs.proofs.texts.trimmed_start.Given as goal

abbrev pub decreases-loop-left : goal.decreases-loop-left
decreases-loop-left l = length l.left
