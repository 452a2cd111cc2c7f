use Rattle.snl_flows.proofs.LineLaws.{lines_flow}
use Rattle.snl_flows.proofs.laws.lines_flow.Goals as goal

pub returns : goal.returns
returns c = lines_flow
