use Rattle.std.proofs.Common.{refl}
use Rattle.snl_rules.proofs.reach_laws.examples_of_targets.Goals as goal

pub returns : goal.returns
returns c = (refl, refl, refl, refl)
