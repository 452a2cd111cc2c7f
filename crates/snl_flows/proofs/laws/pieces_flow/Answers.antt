use Rattle.snl_flows.proofs.Pieces.{pieces_flow}
use Rattle.snl_flows.proofs.laws.pieces_flow.Goals as goal

pub returns : goal.returns
returns c = pieces_flow
