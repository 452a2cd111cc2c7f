use Rattle.snl_same.proofs.FirstLaws.{none-is-same}
use Rattle.snl_same.proofs.laws.none_is_same.Goals as goal

pub returns : goal.returns
returns c = none-is-same
