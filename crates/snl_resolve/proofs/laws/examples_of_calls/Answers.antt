use Rattle.std.proofs.Common.{refl}
use Rattle.snl_resolve.proofs.laws.examples_of_calls.Goals as goal

pub returns : goal.returns
returns c = (refl, refl, refl, refl, refl, refl, refl, refl)
