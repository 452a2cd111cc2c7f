use Rattle.snl_moments.proofs.StepLaws.{takes-all}
use Rattle.snl_moments.proofs.line_step.event_told.Goals as goal

pub returns-clause-takes : goal.returns-clause-takes
returns-clause-takes g c = takes-all c.event.result c.event.ensures.failures
