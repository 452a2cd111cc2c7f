use Rattle.snl_flows.proofs.ChosenLaws.{lines_flow_by_choice}
use Rattle.snl_flows.proofs.laws.lines_flow_by_choice.Goals as goal

pub returns : goal.returns
returns c = lines_flow_by_choice
