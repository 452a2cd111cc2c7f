use Rattle.snl_text.proofs.Parts.{before_fault}
use Rattle.snl_text.proofs.laws.read_before_fault.Goals as goal

pub returns : goal.returns
returns c = before_fault
