use Rattle.std.proofs.Common.{refl}
use Rattle.std.specs.Fmt.{digits}
use Rattle.snl_outline.proofs.laws.examples_of_outlines.Goals as goal

pub returns : goal.returns
unfolding digits
returns c = record { numbers = refl; declarations = refl }
