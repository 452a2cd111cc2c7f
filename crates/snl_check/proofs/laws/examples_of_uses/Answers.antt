use Rattle.std.proofs.Common.{refl}
use Rattle.snl_check.proofs.laws.examples_of_uses.Goals as goal

pub returns : goal.returns
returns c = record { variable = refl; flag = refl; predefined = refl; undeclared = refl; elsewhere = refl; first = refl; noted = refl }
