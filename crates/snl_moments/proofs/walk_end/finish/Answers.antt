use Rattle.std.proofs.lemmas.Result.{IfOk-weaker}
use Rattle.snl_moments.proofs.PlanLaws.{ends-other, into-not, trip-not}
use Rattle.snl_moments.proofs.WalkLaws.{keeps-ends}
use Rattle.snl_moments.proofs.walk_end.finish.Goals as goal

pub returns-in-Trip-clause-ends : goal.returns-in-Trip-clause-ends
returns-in-Trip-clause-ends c = IfOk-weaker c.tell_fault.result _ _ (λ _ h. keeps-ends c.args.is_over c.args.walk.now c.tell_fault.new.walk h) c.tell_fault.ensures.keeps

pub returns-in-Trip-clause-plan : goal.returns-in-Trip-clause-plan
returns-in-Trip-clause-plan c =
    IfOk-weaker c.tell_fault.result _ _ (λ _ h. ends-other c.args.is_over c.args.walk.now c.tell_fault.new.walk h (trip-not c.args.walk.now.sort c.in-Trip.is)) c.tell_fault.ensures.asked

pub returns-in-Into-clause-ends : goal.returns-in-Into-clause-ends
returns-in-Into-clause-ends c = IfOk-weaker c.tell_into.result _ _ (λ _ h. keeps-ends c.args.is_over c.args.walk.now c.tell_into.new.walk h) c.tell_into.ensures.keeps

pub returns-in-Into-clause-plan : goal.returns-in-Into-clause-plan
returns-in-Into-clause-plan c =
    IfOk-weaker c.tell_into.result _ _ (λ _ h. ends-other c.args.is_over c.args.walk.now c.tell_into.new.walk h.same (into-not c.args.walk.now.sort c.in-Into.is)) c.tell_into.ensures.asked
