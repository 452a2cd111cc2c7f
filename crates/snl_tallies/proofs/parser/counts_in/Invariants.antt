use Rattle.std.proofs.Common.{◌≡◌, ◌++◌, All, length, take}
use Rattle.snl_tallies.specs.Counts.{names_of, text_of}
use Rattle.snl_tallies.proofs.TextLaws.{IsSmall}
use Rattle.snl_tallies.proofs.parser.counts_in.Given as goal

-- the lines that were read have the counts so far, and the rest of the text stands behind them
abbrev pub invariant-loop-tally : goal.invariant-loop-tally
invariant-loop-tally l =
    (l.text ≡ text_of (names_of (take l.tally-index l.tallies)) l.counts.items ++ l.rest)
    × ((length l.counts.items ≡ l.tally-index) × All IsSmall l.counts.items)
