use Rattle.std.proofs.Common.{◌≡◌, ◌++◌, ℕ, Some, drop, map}
use Rattle.snl_watch.specs.Counts.{count_in}
use Rattle.snl_watch.specs.Seen.{seen}
use Rattle.snl_watch.specs.Sets.{names_in}
use Rattle.snl_coverage.specs.Shapes.{bytes_of}
use Rattle.snl_coverage.proofs.counters.counts_of.Given as goal

-- the counts so far, and those that are left
abbrev pub invariant-loop-text : goal.invariant-loop-text
invariant-loop-text l =
    let count = count_in (names_in l.counter.keys) l.counter.room (seen l.counter).2 in
    map (λ (n : ℕ). Some n) l.counts.items ++ map count (bytes_of (drop l.text-index l.texts)) ≡ map count (bytes_of l.texts)
