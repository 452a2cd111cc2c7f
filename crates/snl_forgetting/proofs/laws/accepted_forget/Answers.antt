use Rattle.snl_forgetting.proofs.Pieces.{accepted_forget}
use Rattle.snl_forgetting.proofs.laws.accepted_forget.Goals as goal

pub returns : goal.returns
returns c = accepted_forget
