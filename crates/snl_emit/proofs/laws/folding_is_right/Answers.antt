use Rattle.snl_emit.proofs.Folding.{folding}
use Rattle.snl_emit.proofs.laws.folding_is_right.Goals as goal

pub returns : goal.returns
returns c = folding
