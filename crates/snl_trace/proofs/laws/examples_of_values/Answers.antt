use Rattle.std.proofs.Common.{refl}
use Rattle.snl_trace.specs.Numbers.{spelled_number, spelled_value}
use Rattle.snl_trace.proofs.laws.examples_of_values.Goals as goal

pub returns : goal.returns
unfolding spelled_number spelled_value
returns c = (refl, refl, refl, refl, refl, refl, refl, refl, refl, refl, refl, refl, refl)
