use Rattle.std.proofs.Common.{◌≡◌}
use Rattle.snl_import.proofs.feed.take_losses.Given as goal

-- no line is counted, and the text begins where it did, for the same program
abbrev pub invariant-loop : goal.invariant-loop
invariant-loop g l = record {
  lines : l.importer.counts.lines ≡ l.fn.importer.counts.lines;
  first : l.importer.recorder.first ≡ l.fn.importer.recorder.first;
  before : l.importer.recorder.before ≡ l.fn.importer.recorder.before;
  program : l.importer.recorder.program ≡ l.fn.importer.recorder.program;
}
