use Rattle.snl_load.proofs.Meant as meant
use Rattle.snl_load.proofs.laws.plans_are_right.Goals as goal

pub returns : goal.returns
returns c = meant.plans_are_right
