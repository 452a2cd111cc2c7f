use Rattle.snl_emit.proofs.DepthWithin.{depth-within}
use Rattle.snl_emit.proofs.laws.depth_is_within_tokens.Goals as goal

pub returns : goal.returns
returns c = depth-within
