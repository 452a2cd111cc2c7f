use Rattle.std.proofs.Common.{◌≡◌, length}
use Rattle.snl_observer.proofs.TellLaws.{IsPart}
use Rattle.snl_observer.proofs.requirement_output.write_lines.Given as goal

-- the text before what is left was written
abbrev pub invariant-loop-line : goal.invariant-loop-line
invariant-loop-line g l = record {
  part : IsPart l.initial.log.page.watch.bytes l.log.page.watch.bytes l.text l.left;
  run : l.log.page.run.bytes ≡ l.initial.log.page.run.bytes;
  how : l.log.how ≡ l.initial.log.how;
}

abbrev pub decreases-loop-line : goal.decreases-loop-line
decreases-loop-line g l = length l.left
