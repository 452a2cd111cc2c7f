use Rattle.snl_cures.proofs.ExampleLaws.{cure_examples}
use Rattle.snl_cures.proofs.laws.examples_of_cures.Goals as goal

pub returns : goal.returns
returns c = cure_examples
