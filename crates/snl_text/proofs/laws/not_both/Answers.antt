use Rattle.snl_text.proofs.Cuts.{no_fault}
use Rattle.snl_text.proofs.laws.not_both.Goals as goal

pub returns : goal.returns
returns c = λ source end kind pos cut fault. no_fault source cut.lexemes end kind pos cut.cut fault
