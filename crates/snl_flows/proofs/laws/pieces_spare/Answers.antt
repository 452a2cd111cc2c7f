use Rattle.snl_flows.proofs.SparedPieces.{pieces_spare}
use Rattle.snl_flows.proofs.laws.pieces_spare.Goals as goal

pub returns : goal.returns
returns c = pieces_spare
