use Rattle.std.proofs.Common.{refl}
use Rattle.snl_logs.proofs.laws.examples_of_places.Goals as goal

pub returns : goal.returns
returns c = (refl, refl, refl, refl, refl, refl, refl, refl, refl, refl, refl, refl, refl)
