use Rattle.std.proofs.Common.{refl}
use Rattle.std.specs.Fmt.{digits}
use Rattle.snl_schedule.proofs.laws.examples_of_wakes.Goals as goal

pub returns : goal.returns
unfolding digits
returns c = (refl, refl, refl, refl)
