use Rattle.snl_rules.proofs.WayExampleLaws.{way_examples}
use Rattle.snl_rules.proofs.reach_laws.examples_of_ways.Goals as goal

pub returns : goal.returns
returns c = way_examples
