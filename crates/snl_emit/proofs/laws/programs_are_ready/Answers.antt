use Rattle.snl_emit.proofs.Ready.{programs-ready}
use Rattle.snl_emit.proofs.laws.programs_are_ready.Goals as goal

pub returns : goal.returns
returns c = programs-ready
