use Rattle.std.proofs.lemmas.Result.{IfOk-weaker}
use Rattle.snl_moments.proofs.LineLaws.{towards-idle}
use Rattle.snl_moments.proofs.PlanLaws.{keeps-plan, trip-not}
use Rattle.snl_moments.proofs.times.come_towards.Goals as goal

pub returns-in-Into-clause-comes : goal.returns-in-Into-clause-comes
returns-in-Into-clause-comes c = IfOk-weaker c.wake_before.result _ _ (λ _ h. h c.in-Into.is) c.wake_before.ensures.comes

pub returns-in-Trip-clause-comes : goal.returns-in-Trip-clause-comes
returns-in-Trip-clause-comes c = towards-idle c.args.line.now c.args.walk.now c.args.walk.now (λ r first gave more plain at. at) (trip-not c.args.walk.now.sort c.in-Trip.is)

pub returns-in-Trip-clause-plan : goal.returns-in-Trip-clause-plan
returns-in-Trip-clause-plan c = keeps-plan c.args.walk.now
