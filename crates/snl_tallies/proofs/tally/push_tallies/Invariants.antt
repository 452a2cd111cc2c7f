use Rattle.std.proofs.Common.{◌≡◌, ◌++◌, drop}
use Rattle.snl_tallies.specs.Counts.{counts_of, names_of, text_of}
use Rattle.snl_tallies.proofs.tally.push_tallies.Given as goal

-- the lines that were added, and those that are left
abbrev pub invariant-loop-tally : goal.invariant-loop-tally
invariant-loop-tally l =
    let left = drop l.tally-index l.tallies in
    l.out.items ++ text_of (names_of left) (counts_of left) ≡ l.initial.out.items ++ text_of (names_of l.tallies) (counts_of l.tallies)
