use Rattle.std.proofs.Common.{map, drop}
use Rattle.snl_alike.specs.Delays.{DelaysInSets, IsShort, longest_in, longests_of}
use Rattle.snl_alike.specs.Timing.{longests_in}
use Rattle.snl_syntax.specs.view.Programs.{state_set_view}
use Rattle.snl_timing.proofs.parts.are_short_sets.Given as goal

-- If the state sets that are left are short, all are.
abbrev pub invariant-loop-number : goal.invariant-loop-number
invariant-loop-number l =
    DelaysInSets (λ set state. IsShort (longest_in (longests_of (longests_in l.table) set) state)) l.number (map state_set_view (drop l.number l.sets)) →
    DelaysInSets (λ set state. IsShort (longest_in (longests_of (longests_in l.table) set) state)) 0 (map state_set_view l.sets)
