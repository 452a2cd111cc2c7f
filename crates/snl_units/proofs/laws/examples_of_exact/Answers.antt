use Rattle.std.proofs.Common.{refl}
use Rattle.snl_units.proofs.laws.examples_of_exact.Goals as goal

pub returns : goal.returns
returns c = (refl, refl, refl, refl, refl, refl, refl, refl, refl)
