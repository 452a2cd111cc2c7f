use Rattle.snl_text.proofs.Longest.{no_longer}
use Rattle.snl_text.proofs.laws.no_longer_lexeme.Goals as goal

pub returns : goal.returns
returns c = no_longer
