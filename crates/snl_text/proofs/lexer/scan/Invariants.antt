use Rattle.std.proofs.Common.{◌-◌, length}
use Rattle.snl_text.specs.Scanning.{reading}
use Rattle.snl_text.proofs.Cuts.{Reached}
use Rattle.snl_text.proofs.lexer.scan.Given as goal

abbrev pub invariant-loop-scanner : goal.invariant-loop-scanner
invariant-loop-scanner l = Reached l.source (reading l.scanner)

abbrev pub decreases-loop-scanner : goal.decreases-loop-scanner
decreases-loop-scanner l = length l.source - l.scanner.pos.offset
