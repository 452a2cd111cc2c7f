use Rattle.snl_flows.proofs.SparedPieces.{lines_spare}
use Rattle.snl_flows.proofs.laws.lines_spare.Goals as goal

pub returns : goal.returns
returns c = lines_spare
