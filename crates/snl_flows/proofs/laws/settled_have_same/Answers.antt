use Rattle.snl_flows.proofs.ChosenLinks.{settled_have_same}
use Rattle.snl_flows.proofs.laws.settled_have_same.Goals as goal

pub returns : goal.returns
returns c = settled_have_same
