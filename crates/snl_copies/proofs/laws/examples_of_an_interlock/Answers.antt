use Rattle.snl_copies.proofs.ExampleLaws.{interlock_examples}
use Rattle.snl_copies.proofs.laws.examples_of_an_interlock.Goals as goal

pub returns : goal.returns
returns c = interlock_examples
