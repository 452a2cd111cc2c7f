use Rattle.std.proofs.Common.{refl}
use Rattle.snl_arithmetic.proofs.laws.examples_of_arithmetic.Goals as goal

pub returns : goal.returns
returns c = (refl, refl, refl, refl, refl, refl, refl, refl, refl, refl, refl)
