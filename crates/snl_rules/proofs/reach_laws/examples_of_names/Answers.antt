use Rattle.snl_rules.proofs.NameExampleLaws.{name_examples}
use Rattle.snl_rules.proofs.reach_laws.examples_of_names.Goals as goal

pub returns : goal.returns
returns c = name_examples
