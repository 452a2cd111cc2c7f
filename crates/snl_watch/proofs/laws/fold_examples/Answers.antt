use Rattle.snl_watch.proofs.FoldExamples.{fold-examples}
use Rattle.snl_watch.proofs.laws.fold_examples.Goals as goal

pub returns : goal.returns
returns c = fold-examples
