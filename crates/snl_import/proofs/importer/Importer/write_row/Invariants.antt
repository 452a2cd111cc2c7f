use Rattle.std.proofs.Common.{◌≡◌, length}
use Rattle.snl_import.proofs.importer.Importer.write_row.Given as goal

-- no line is counted, and the text begins where it did, for the same program
abbrev pub invariant-loop-cell : goal.invariant-loop-cell
invariant-loop-cell g l = record {
  lines : l.self.counts.lines ≡ l.fn.self.counts.lines;
  first : l.self.recorder.first ≡ l.fn.self.recorder.first;
  before : l.self.recorder.before ≡ l.fn.self.recorder.before;
  program : l.self.recorder.program ≡ l.fn.self.recorder.program;
}

abbrev pub decreases-loop-cell : goal.decreases-loop-cell
decreases-loop-cell g l = length l.row.columns.now
