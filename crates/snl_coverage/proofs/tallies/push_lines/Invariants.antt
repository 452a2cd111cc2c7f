use Rattle.std.proofs.Common.{◌≡◌, ◌++◌, drop}
use Rattle.snl_tallies.specs.Counts.{counts_of}
use Rattle.snl_coverage.proofs.tallies.push_lines.Given as goal

-- the counts that were added, and those that are left
abbrev pub invariant-loop-number : goal.invariant-loop-number
invariant-loop-number l = counts_of l.tallies.items ++ drop l.number l.shown ≡ counts_of l.initial.tallies.items ++ l.shown
