use Rattle.std.proofs.Common.{map, drop}
use Rattle.snl_alike.specs.Delays.{DelaysInStates, IsShort, longest_in}
use Rattle.snl_syntax.specs.view.Programs.{state_view}
use Rattle.snl_timing.proofs.parts.are_short_states.Given as goal

-- If the states that are left are short, all are.
abbrev pub invariant-loop-number : goal.invariant-loop-number
invariant-loop-number l =
    DelaysInStates (λ state. IsShort (longest_in l.longests state)) l.number (map state_view (drop l.number l.states)) →
    DelaysInStates (λ state. IsShort (longest_in l.longests state)) 0 (map state_view l.states)
