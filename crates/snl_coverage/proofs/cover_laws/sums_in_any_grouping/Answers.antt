use Rattle.snl_coverage.proofs.Sums.{sums-in-any-grouping}
use Rattle.snl_coverage.proofs.cover_laws.sums_in_any_grouping.Goals as goal

pub returns : goal.returns
returns c = sums-in-any-grouping
