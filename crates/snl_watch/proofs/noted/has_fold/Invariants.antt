use Rattle.std.proofs.Common.{◌≡◌, true, drop}
use Rattle.snl_watch.specs.Folding.{has_fold_from}
use Rattle.snl_watch.proofs.noted.has_fold.Given as goal

abbrev pub invariant-loop-number : goal.invariant-loop-number
invariant-loop-number l = has_fold_from l.begins (drop l.number l.text) ≡ has_fold_from true l.text
