use Rattle.snl_machine.proofs.Flags.{accepted_declares_its_flags}
use Rattle.snl_machine.proofs.laws.accepted_declares_its_flags.Goals as goal

pub returns : goal.returns
returns c = accepted_declares_its_flags
