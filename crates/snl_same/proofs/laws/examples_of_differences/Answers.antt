use Rattle.std.proofs.Common.{refl}
use Rattle.snl_same.specs.Firsts.{first_difference}
use Rattle.snl_same.proofs.laws.examples_of_differences.Goals as goal

pub returns : goal.returns
unfolding first_difference
returns c = record { other = refl; more = refl; fewer = refl; none = refl }
