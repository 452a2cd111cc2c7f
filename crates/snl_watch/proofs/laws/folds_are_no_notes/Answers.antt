use Rattle.snl_watch.proofs.FoldReading.{folds_are_no_notes}
use Rattle.snl_watch.proofs.laws.folds_are_no_notes.Goals as goal

pub returns : goal.returns
returns c = folds_are_no_notes
