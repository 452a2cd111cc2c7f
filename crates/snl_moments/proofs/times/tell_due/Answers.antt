use Rattle.std.proofs.Common.{ap, arith, length, refl}
use Rattle.snl_moments.proofs.LineLaws.{nears-due, towards-due, towards-none}
use Rattle.snl_moments.proofs.PlanLaws.{asked-on, keeps-plan, left-none, plan-then, stays-asked, stays-plan}
use Rattle.snl_moments.proofs.times.tell_due.Goals as goal

pub loop-time-init : goal.loop-time-init
loop-time-init c = record { nears = λ r first gave more plain at. at; plan = keeps-plan c.args.walk.now; next = omega arith }

pub loop-time-preserved : goal.loop-time-preserved
loop-time-preserved c =
    let s = c.args.walk.now in
    let t = c.loop-time.walk in
    let u = c.due_time.new.walk in
    let v = c.tell_next.new.walk in
    let same = c.in-Some.ensures.leaves in
    let next = asked-on t u c.in-Some.ms same.asked c.in-Some.ensures.next in
    let did = c.in_ok-tell_next-in-Some.ensures.plan in
    record {
      nears = nears-due c.args.line.now c.in-Some.ms s t u v c.loop-time.invariant.nears same c.in-Some.ensures.next c.in-Some.ensures.later c.in_ok-tell_next-in-Some.ensures.tells;
      plan = plan-then s t v c.loop-time.invariant.plan (plan-then t u v (stays-plan t u (stays-asked t u same.asked same.told.moments)) (did.keeps next));
      next = omega (arith, c.loop-time.invariant.next, same.asked.next, did.next next refl);
    }

pub returns-in-None-clause-comes : goal.returns-in-None-clause-comes
returns-in-None-clause-comes c =
    towards-due c.args.line.now c.args.walk.now c.loop-time.walk c.due_time.new.walk c.loop-time.invariant.nears c.in-None.ensures.leaves c.in-None.ensures.none

pub returns-in-None-clause-plan : goal.returns-in-None-clause-plan
returns-in-None-clause-plan c =
    let t = c.loop-time.walk in
    let u = c.due_time.new.walk in
    let same = c.in-None.ensures.leaves in
    plan-then c.args.walk.now t u c.loop-time.invariant.plan (stays-plan t u (stays-asked t u same.asked same.told.moments))

pub returns-clause-comes : goal.returns-clause-comes
returns-clause-comes c =
    towards-none c.args.line.now c.args.walk.now c.loop-time.walk c.loop-time.invariant.nears
    (left-none c.loop-time.walk (omega (arith, c.loop-time.invariant.next, ap length c.loop-time.invariant.plan.times)))
