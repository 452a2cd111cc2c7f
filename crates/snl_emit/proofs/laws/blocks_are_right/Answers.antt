use Rattle.snl_emit.proofs.Pieces.{blocks-right}
use Rattle.snl_emit.proofs.laws.blocks_are_right.Goals as goal

pub returns : goal.returns
returns c = blocks-right
