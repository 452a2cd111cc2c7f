use Rattle.std.proofs.Common.{refl}
use Rattle.snl_cures.proofs.laws.examples_of_mended.Goals as goal

pub returns : goal.returns
returns c = record { before = refl; instead = refl; away = refl; at_the_end = refl }
