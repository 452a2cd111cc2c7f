use Rattle.snl_flows.proofs.LineLaws.{events_flow}
use Rattle.snl_flows.proofs.laws.events_flow.Goals as goal

pub returns : goal.returns
returns c = events_flow
