use Rattle.std.proofs.Common.{rules}
use Rattle.snl_observer.proofs.TakingLaws.{finishes-line, finishes-none}
use Rattle.snl_observer.proofs.observation.finish.Goals as goal

pub returns-then-is_empty-clause-finishes : goal.returns-then-is_empty-clause-finishes
returns-then-is_empty-clause-finishes g c = finishes-none _ _ (search rules)

pub returns-clause-finishes : goal.returns-clause-finishes
returns-clause-finishes g c = rw c.unwrap_or.ensures (finishes-line c.args.reading.now.begun.items _ _ c.step.result (search rules) (rw c.as_slice.ensures.value at c.step.ensures.steps))
