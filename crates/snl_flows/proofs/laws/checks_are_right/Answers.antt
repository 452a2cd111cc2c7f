use Rattle.snl_flows.proofs.QuietChecked.{checks_are_right}
use Rattle.snl_flows.proofs.laws.checks_are_right.Goals as goal

pub returns : goal.returns
returns c = checks_are_right
