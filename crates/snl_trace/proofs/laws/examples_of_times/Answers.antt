use Rattle.std.proofs.Common.{refl}
use Rattle.snl_trace.specs.Numbers.{spelled_number}
use Rattle.snl_trace.proofs.laws.examples_of_times.Goals as goal

pub returns : goal.returns
unfolding spelled_number
returns c = (refl, refl, refl, refl, refl)
