use Rattle.snl_emit.proofs.Pieces.{conditions-right}
use Rattle.snl_emit.proofs.laws.conditions_are_right.Goals as goal

pub returns : goal.returns
returns c = conditions-right
