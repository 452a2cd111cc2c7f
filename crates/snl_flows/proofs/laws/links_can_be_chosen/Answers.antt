use Rattle.snl_flows.proofs.ChosenLinks.{links_can_be_chosen}
use Rattle.snl_flows.proofs.laws.links_can_be_chosen.Goals as goal

pub returns : goal.returns
returns c = links_can_be_chosen
