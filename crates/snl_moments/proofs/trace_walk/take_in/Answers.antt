use Rattle.snl_moments.proofs.PlanLaws.{closes-then, keeps-plan, plan-then}
use Rattle.snl_moments.proofs.TakeLaws.{part-all, part-ends, part-long, part-on, part-start}
use Rattle.snl_moments.proofs.trace_walk.take_in.Goals as goal

pub loop-line-init : goal.loop-line-init
loop-line-init c = record { way = part-start _ _ _ c.requires; plan = keeps-plan _ }

pub end_line-requires : goal.end_line-requires
end_line-requires c = record { begun = c.loop-line.invariant.way.plain; text = c.in-Some.ensures.first }

pub loop-line-preserved : goal.loop-line-preserved
loop-line-preserved c = record {
  way = part-on _ _ _ _ _ _ _ _ _ _ c.loop-line.invariant.way c.in-Some.ensures.cut (rw c.in-None.is at c.in_ok-end_line.ensures.goes) (rw c.in-None.is at c.in_ok-end_line.ensures.clear);
  plan = plan-then _ _ _ c.loop-line.invariant.plan (rw c.in-None.is at c.in_ok-end_line.ensures.plan);
}

pub returns-in-Some-2-clause-takes : goal.returns-in-Some-2-clause-takes
returns-in-Some-2-clause-takes c =
    part-ends c.in-Some-2.close _ _ _ _ _ _ c.end_line.new.begun.items _ _ c.end_line.new.walk c.loop-line.invariant.way c.in-Some.ensures.cut (rw c.in-Some-2.is at c.in_ok-end_line.ensures.goes)

pub returns-in-Some-2-clause-plan : goal.returns-in-Some-2-clause-plan
returns-in-Some-2-clause-plan c = closes-then c.in-Some-2.close _ _ c.end_line.new.walk c.loop-line.invariant.plan (rw c.in-Some-2.is at c.in_ok-end_line.ensures.plan)

pub returns-then-extend-clause-takes : goal.returns-then-extend-clause-takes
returns-then-extend-clause-takes c = part-all _ _ _ _ _ _ _ c.loop-line.invariant.way c.in_default.ensures.none (c.extend.ensures.ok c.if-extend.true)

pub returns-clause-takes : goal.returns-clause-takes
returns-clause-takes c =
    part-long c.in_ok-too_long.field-0 _ _ _ _ c.extend.new.line.items _ _ _ c.loop-line.invariant.way c.in_default.ensures.none
    (c.extend.ensures.long c.if-extend.false) c.in_ok-too_long.ensures.tells

pub returns-clause-plan : goal.returns-clause-plan
returns-clause-plan c = closes-then c.in_ok-too_long.field-0 _ _ c.too_long.new.walk c.loop-line.invariant.plan c.in_ok-too_long.ensures.plan
