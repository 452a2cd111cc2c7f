use Rattle.snl_forgetting.proofs.Examples.{own_examples}
use Rattle.snl_forgetting.proofs.laws.own_examples.Goals as goal

pub returns : goal.returns
returns c = own_examples
