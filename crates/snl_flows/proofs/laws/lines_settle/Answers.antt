use Rattle.snl_flows.proofs.SettledLines.{lines_settle}
use Rattle.snl_flows.proofs.laws.lines_settle.Goals as goal

pub returns : goal.returns
returns c = lines_settle
