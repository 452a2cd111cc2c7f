use Rattle.snl_machine.proofs.TiedLinks.{accepted_is_tied}
use Rattle.snl_machine.proofs.laws.accepted_is_tied.Goals as goal

pub returns : goal.returns
returns c = accepted_is_tied
