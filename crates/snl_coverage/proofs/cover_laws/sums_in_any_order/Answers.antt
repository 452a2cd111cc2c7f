use Rattle.snl_coverage.proofs.Sums.{sums-in-any-order}
use Rattle.snl_coverage.proofs.cover_laws.sums_in_any_order.Goals as goal

pub returns : goal.returns
returns c = sums-in-any-order
