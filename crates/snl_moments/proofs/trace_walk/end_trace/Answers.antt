use Rattle.std.proofs.lemmas.Result.{IfOk-weaker}
use Rattle.std.proofs.lemmas.List.{nil_from_length}
use Rattle.std.proofs.Common.{rules}
use Rattle.snl_moments.proofs.PlanLaws.{closes-then}
use Rattle.snl_moments.proofs.TakeLaws.{ends-clean, ends-line, ends-there}
use Rattle.snl_moments.proofs.trace_walk.end_trace.Goals as goal

pub returns-then-is_empty-clause-ends : goal.returns-then-is_empty-clause-ends
returns-then-is_empty-clause-ends c =
    IfOk-weaker c.finish_over.result _ _ (λ _ h. ends-clean c.args.begun.now _ _ (nil_from_length c.args.begun.now (search rules)) h) c.finish_over.ensures.ends

pub returns-in-Some-clause-ends : goal.returns-in-Some-clause-ends
returns-in-Some-clause-ends c = ends-there c.in-Some.close c.args.begun.now c.args.walk.now c.take_line.new.walk (rw c.in-Some.is at c.in_ok-close.ensures.goes)

pub returns-in-Some-clause-plan : goal.returns-in-Some-clause-plan
returns-in-Some-clause-plan c = rw c.in-Some.is at c.in_ok-close.ensures.plan

pub returns-in-None-clause-ends : goal.returns-in-None-clause-ends
returns-in-None-clause-ends c =
    IfOk-weaker c.finish_over-in-None.result _ _ (λ _ h. ends-line c.args.begun.now _ c.take_line.new.walk _ (rw c.in-None.is at c.in_ok-close.ensures.goes) h) c.finish_over-in-None.ensures.ends

pub returns-in-None-clause-plan : goal.returns-in-None-clause-plan
returns-in-None-clause-plan c =
    IfOk-weaker c.finish_over-in-None.result _ _
    (λ close h. closes-then close c.args.walk.now c.take_line.new.walk c.finish_over-in-None.new.walk (rw c.in-None.is at c.in_ok-close.ensures.plan) h)
    c.finish_over-in-None.ensures.plan
