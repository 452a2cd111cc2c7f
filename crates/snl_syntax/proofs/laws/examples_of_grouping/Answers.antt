use Rattle.snl_syntax.proofs.GroupLaws.{group_examples}
use Rattle.snl_syntax.proofs.laws.examples_of_grouping.Goals as goal

pub returns : goal.returns
returns c = group_examples
