use Rattle.std.proofs.Common.{refl}
use Rattle.snl_moments.proofs.laws.examples_of_texts.Goals as goal

pub returns : goal.returns
returns c = record { unended = refl; ended = refl }
