use Rattle.snl_flows.proofs.SettledPieces.{pieces_settle}
use Rattle.snl_flows.proofs.laws.pieces_settle.Goals as goal

pub returns : goal.returns
returns c = pieces_settle
