use Rattle.snl_rules.proofs.BrokenLaws.{broken_law}
use Rattle.snl_rules.proofs.laws.told_is_broken.Goals as goal

pub returns : goal.returns
returns c = broken_law
