use Rattle.std.proofs.Common.{length, ◌-◌, ◌≤◌}
use Rattle.snl_units.proofs.decimals.digits_of.Given as goal

-- within the text
abbrev pub invariant-loop-place : goal.invariant-loop-place
invariant-loop-place l = l.place ≤ length l.text

abbrev pub decreases-loop-place : goal.decreases-loop-place
decreases-loop-place l = length l.text - l.place
