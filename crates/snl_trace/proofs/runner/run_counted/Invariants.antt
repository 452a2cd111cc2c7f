use Rattle.std.proofs.Common.{◌≡◌, ◌+◌, ◌*◌, ◌≤◌, [], length}
use Rattle.snl_machine.specs.MachineOf.{StaysMachineOf, fixed_of}
use Rattle.snl_trace.specs.Run.{rules_of}
use Rattle.snl_trace.specs.RunOver.{standing}
use Rattle.snl_trace.proofs.SourceLaws.{IsUnderWay}
use Rattle.snl_trace.proofs.runner.run_counted.Given as goal

-- the bytes that were read were taken in, and no more lines have ended than that
abbrev pub invariant-loop-reads : goal.invariant-loop-reads
invariant-loop-reads g l = record {
  way : IsUnderWay (rules_of l.initial.machine) (g.R.Source.gave l.initial.source) (g.R.Source.gave l.source) l._reads
      (standing [] 1 l.initial.machine (g.S.Sink.told l.initial.sink))
      (standing l.reading.line.items l.reading.number l.machine (g.S.Sink.told l.sink));
  fixed : fixed_of l.machine ≡ fixed_of l.initial.machine;
  stays : StaysMachineOf l.initial.machine l.machine;
  begun : length l.reading.line.items ≤ 32768;
  room : length l.room ≡ 65536;
  lines : l.reading.number ≤ 1 + l._reads * 65536;
  source_works : g.R.Source.failures l.source ≡ g.R.Source.failures l.initial.source;
  sink_works : g.S.Sink.failures l.sink ≡ g.S.Sink.failures l.initial.sink;
}
