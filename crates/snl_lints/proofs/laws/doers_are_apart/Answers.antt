use Rattle.snl_lints.proofs.ApartLaws.{apart_law}
use Rattle.snl_lints.proofs.laws.doers_are_apart.Goals as goal

pub returns : goal.returns
returns c = apart_law
