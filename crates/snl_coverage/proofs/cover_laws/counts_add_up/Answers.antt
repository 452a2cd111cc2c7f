use Rattle.snl_coverage.proofs.Counting.{counts-add-up}
use Rattle.snl_coverage.proofs.cover_laws.counts_add_up.Goals as goal

pub returns : goal.returns
returns c = counts-add-up
