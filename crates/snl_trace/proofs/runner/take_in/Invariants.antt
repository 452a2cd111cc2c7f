use Rattle.std.proofs.Common.{◌≡◌, ◌+◌, ◌≤◌, length}
use Rattle.snl_machine.specs.MachineOf.{StaysMachineOf, fixed_of}
use Rattle.snl_trace.specs.Run.{rules_of}
use Rattle.snl_trace.specs.RunOver.{standing}
use Rattle.snl_trace.proofs.RunOverLaws.{IsPartWay}
use Rattle.snl_trace.proofs.runner.take_in.Given as goal

-- the bytes before those that are left were taken in, and no more lines have ended than there were bytes
abbrev pub invariant-loop-next : goal.invariant-loop-next
invariant-loop-next g l = record {
  way : IsPartWay (rules_of l.initial.machine) l.bytes l.left
      (standing l.initial.reading.line.items l.initial.reading.number l.initial.machine (g.S.Sink.told l.initial.sink))
      (standing l.reading.line.items l.reading.number l.machine (g.S.Sink.told l.sink));
  fixed : fixed_of l.machine ≡ fixed_of l.initial.machine;
  stays : StaysMachineOf l.initial.machine l.machine;
  lines : l.reading.number + length l.left ≤ l.initial.reading.number + length l.bytes;
  none_failed : g.S.Sink.failures l.sink ≡ g.S.Sink.failures l.initial.sink;
}

abbrev pub decreases-loop-next : goal.decreases-loop-next
decreases-loop-next g l = length l.left
