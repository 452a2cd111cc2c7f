use Rattle.snl_text.proofs.Parts.{front_cut}
use Rattle.snl_text.proofs.laws.front_has_the_cut.Goals as goal

pub returns : goal.returns
returns c = front_cut
