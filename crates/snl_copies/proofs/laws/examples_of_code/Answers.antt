use Rattle.snl_copies.proofs.ExampleLaws.{code_examples}
use Rattle.snl_copies.proofs.laws.examples_of_code.Goals as goal

pub returns : goal.returns
returns c = code_examples
