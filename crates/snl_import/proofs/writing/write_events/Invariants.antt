use Rattle.std.proofs.Common.{◌≡◌}
use Rattle.snl_import.specs.Taken.{TellsTaken}
use Rattle.snl_import.specs.Written.{IsTrace}
use Rattle.snl_import.proofs.writing.write_events.Given as goal

-- what was handed on is a trace that the program takes, behind which the text begins
abbrev pub invariant-loop : goal.invariant-loop
invariant-loop g l = record {
  trace : IsTrace (g.K.Sink.told l.sink) (l.importer.recorder.first, l.importer.recorder.before);
  taken : TellsTaken (g.P.Program.taken l.fn.importer.recorder.program) (g.K.Sink.told l.sink);
  program : l.importer.recorder.program ≡ l.fn.importer.recorder.program;
  none_failed : g.K.Sink.failures l.sink ≡ g.K.Sink.failures l.fn.sink;
}
