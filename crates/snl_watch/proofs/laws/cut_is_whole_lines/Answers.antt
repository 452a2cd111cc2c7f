use Rattle.snl_watch.proofs.WholeLines.{cut-is-whole-lines}
use Rattle.snl_watch.proofs.laws.cut_is_whole_lines.Goals as goal

pub returns : goal.returns
returns c = cut-is-whole-lines
