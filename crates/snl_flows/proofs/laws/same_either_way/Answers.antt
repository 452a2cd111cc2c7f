use Rattle.snl_flows.proofs.Nothing.{same_either_way}
use Rattle.snl_flows.proofs.laws.same_either_way.Goals as goal

pub returns : goal.returns
returns c = same_either_way
