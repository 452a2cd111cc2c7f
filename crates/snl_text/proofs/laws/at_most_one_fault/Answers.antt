use Rattle.snl_text.proofs.Cuts.{one_fault}
use Rattle.snl_text.proofs.laws.at_most_one_fault.Goals as goal

pub returns : goal.returns
returns c = one_fault
