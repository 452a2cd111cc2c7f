use Rattle.snl_watch.proofs.Going.{counts-are-exact}
use Rattle.snl_watch.proofs.laws.counts_are_exact.Goals as goal

pub returns : goal.returns
returns c = counts-are-exact
