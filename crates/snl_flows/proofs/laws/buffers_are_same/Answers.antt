use Rattle.snl_flows.proofs.Nothing.{buffers_are_same}
use Rattle.snl_flows.proofs.laws.buffers_are_same.Goals as goal

pub returns : goal.returns
returns c = buffers_are_same
