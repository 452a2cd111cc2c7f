use Rattle.snl_machine.proofs.Ordered.{parsed_are_read}
use Rattle.snl_machine.proofs.laws.parsed_are_read.Goals as goal

pub returns : goal.returns
returns c = parsed_are_read
