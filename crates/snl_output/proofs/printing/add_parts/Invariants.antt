use Rattle.std.proofs.Common.{◌≡◌, [], drop}
use Rattle.snl_output.specs.Formats.{filled}
use Rattle.snl_output.proofs.Adding.{IsAdded}
use Rattle.snl_output.proofs.printing.add_parts.Given as goal

abbrev pub invariant-loop-part : goal.invariant-loop-part
invariant-loop-part g l = record {
  added : IsAdded (filled l.parts l.numbers []) (filled (drop l.part-index l.parts) l.left []) l.initial.line.held.items l.line.held.items
      (g.S.Sink.told l.initial.sink) (g.S.Sink.told l.sink);
  none_failed : g.S.Sink.failures l.sink ≡ g.S.Sink.failures l.initial.sink;
}
