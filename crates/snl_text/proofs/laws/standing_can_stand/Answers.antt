use Rattle.snl_text.proofs.Standing.{can_stand}
use Rattle.snl_text.proofs.laws.standing_can_stand.Goals as goal

pub returns : goal.returns
returns c = can_stand
