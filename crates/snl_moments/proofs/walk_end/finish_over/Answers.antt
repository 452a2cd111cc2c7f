use Rattle.snl_moments.proofs.PlanLaws.{closes-over}
use Rattle.snl_moments.specs.declared.walks.Close.TheVariants.{Ended, Over}
use Rattle.snl_moments.proofs.walk_end.finish_over.Goals as goal

pub returns-in-Some-clause-plan : goal.returns-in-Some-clause-plan
returns-in-Some-clause-plan c = closes-over (Ended c.in-Some.end) c.args.walk.now c.finish.new.walk c.in_ok-finish.ensures.plan

pub returns-in-None-clause-plan : goal.returns-in-None-clause-plan
returns-in-None-clause-plan c = closes-over Over c.args.walk.now c.finish.new.walk c.in_ok-finish.ensures.plan
