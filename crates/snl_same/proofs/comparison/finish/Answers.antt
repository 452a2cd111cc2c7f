use Rattle.std.proofs.Common.{rules}
use Rattle.snl_same.proofs.TakingLaws.{finishes-line}
use Rattle.snl_same.proofs.comparison.finish.Goals as goal

pub returns-clause-finishes : goal.returns-clause-finishes
returns-clause-finishes c = rw c.unwrap_or.ensures (finishes-line c.args.reading.now.begun.items _ _ c.in_ok-step.field-0 (search rules) (rw c.as_slice.ensures.value at c.in_ok-step.ensures.steps))
