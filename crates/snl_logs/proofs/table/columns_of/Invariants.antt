use Rattle.std.proofs.Common.{length}
use Rattle.snl_logs.proofs.table.columns_of.Given as goal

abbrev pub decreases-loop-name : goal.decreases-loop-name
decreases-loop-name l = length l.rest
