use Rattle.snl_watch.proofs.Going.{counts-go-on}
use Rattle.snl_watch.proofs.laws.counts_go_on.Goals as goal

pub returns : goal.returns
returns c = counts-go-on
