use Rattle.std.proofs.Common.{refl}
use Rattle.snl_resolve.proofs.laws.examples_of_shared_variables.Goals as goal

pub returns : goal.returns
returns c = refl
