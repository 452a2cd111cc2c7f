use Rattle.std.proofs.Common.{refl}
use Rattle.std.specs.Fmt.{digits}
use Rattle.snl_tallies.proofs.laws.examples_of_heads.Goals as goal

pub returns : goal.returns
unfolding digits
returns c = record { small = refl; other = refl; none = refl; line = refl }
