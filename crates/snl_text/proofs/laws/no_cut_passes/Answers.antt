use Rattle.snl_text.proofs.Cuts.{none_passes}
use Rattle.snl_text.proofs.laws.no_cut_passes.Goals as goal

pub returns : goal.returns
returns c = none_passes
