use Rattle.snl_forgetting.proofs.Accepted.{accepted_name_their_own}
use Rattle.snl_forgetting.proofs.laws.accepted_name_their_own.Goals as goal

pub returns : goal.returns
returns c = accepted_name_their_own
