use Rattle.std.proofs.Common.{◌≡◌, ◌++◌, drop, take}
use Rattle.snl_coverage.specs.Coverage.{both}
use Rattle.snl_coverage.proofs.coverage.add_counts.Given as goal

-- those that were added, and those that are left
abbrev pub invariant-loop-number : goal.invariant-loop-number
invariant-loop-number l =
    take l.number l.counts.items ++ both (drop l.number l.counts.items) (drop l.number l.others) ≡ both l.initial.counts.items l.others
