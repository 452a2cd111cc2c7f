use Rattle.snl_moments.specs.Plans.{StaysAsked}
use Rattle.snl_moments.specs.Walks.{WakesTo}
use Rattle.snl_moments.proofs.wakes.wake_up.Given as goal

-- the wakes so far led on
abbrev pub invariant-loop-wake : goal.invariant-loop-wake
invariant-loop-wake l = record { wakes : WakesTo l.ms l.initial.walk l.walk; asked : StaysAsked l.initial.walk l.walk }
