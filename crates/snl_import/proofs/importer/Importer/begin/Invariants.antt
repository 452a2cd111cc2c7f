use Rattle.std.proofs.Common.{◌≡◌}
use Rattle.snl_import.proofs.importer.Importer.begin.Given as goal

-- no line is counted, and the text begins where it did, for the same program
abbrev pub invariant-loop-place : goal.invariant-loop-place
invariant-loop-place g l = record {
  lines : l.self.counts.lines ≡ l.fn.self.counts.lines;
  first : l.self.recorder.first ≡ l.fn.self.recorder.first;
  before : l.self.recorder.before ≡ l.fn.self.recorder.before;
  program : l.self.recorder.program ≡ l.fn.self.recorder.program;
}
