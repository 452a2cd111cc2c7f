use Rattle.snl_text.proofs.Reaching.{cut_or_fault}
use Rattle.snl_text.proofs.laws.cut_or_fault.Goals as goal

pub returns : goal.returns
returns c = cut_or_fault
