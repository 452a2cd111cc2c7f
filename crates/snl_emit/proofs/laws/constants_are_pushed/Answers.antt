use Rattle.snl_emit.proofs.Pushed.{pushed}
use Rattle.snl_emit.proofs.laws.constants_are_pushed.Goals as goal

pub returns : goal.returns
returns c = pushed
