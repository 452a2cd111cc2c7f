use Rattle.std.proofs.Common.{refl}
use Rattle.snl_vm.proofs.laws.examples_of_ranges.Goals as goal

pub returns : goal.returns
returns c = (refl, refl, refl, refl, refl)
