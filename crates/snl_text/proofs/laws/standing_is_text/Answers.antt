use Rattle.snl_text.proofs.Whole.{standing_text}
use Rattle.snl_text.proofs.laws.standing_is_text.Goals as goal

pub returns : goal.returns
returns c = standing_text
