use Rattle.std.proofs.Common.{length, ◌-◌}
use Rattle.snl_watch.specs.Folds.{NoneBetween}
use Rattle.snl_watch.proofs.line_ends.is_one_long_line.Given as goal

-- none stands before the place
abbrev pub invariant-loop-place : goal.invariant-loop-place
invariant-loop-place l = NoneBetween l.text 0 l.place

abbrev pub decreases-loop-place : goal.decreases-loop-place
decreases-loop-place l = length l.text - l.place
