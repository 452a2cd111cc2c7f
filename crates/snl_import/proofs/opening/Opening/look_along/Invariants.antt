use Rattle.std.proofs.Common.{length}
use Rattle.snl_import.proofs.opening.Opening.look_along.Given as goal

abbrev pub decreases-loop-cell : goal.decreases-loop-cell
decreases-loop-cell l = length l.row.columns.now
