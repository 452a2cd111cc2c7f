use Rattle.std.proofs.Common.{◌∙◌, ap, arith, length, sym}
use Rattle.snl_moments.proofs.PlanLaws.{keeps-plan, left-none, left-past, plan-then}
use Rattle.snl_moments.proofs.WalkLaws.{ends-then}
use Rattle.snl_moments.proofs.walk_end.tell_rest.Goals as goal

pub loop-time-init : goal.loop-time-init
loop-time-init c = record { ends = λ r first gave rest over at. at; plan = keeps-plan c.args.walk.now; next = λ _. omega arith }

pub loop-time-preserved : goal.loop-time-preserved
loop-time-preserved c =
    let s = c.args.walk.now in
    let t = c.loop-time.walk in
    let u = c.tell_last.new.walk in
    let is = sym c.next_time.ensures ∙ c.in-Some.is in
    let did = c.in_ok-tell_last-in-Some.ensures.plan in
    record {
      ends = ends-then c.args.is_over s t u c.loop-time.invariant.ends (c.in_ok-tell_last-in-Some.ensures.ends is);
      plan = plan-then s t u c.loop-time.invariant.plan (did.keeps is);
      next = λ over. omega (arith, c.loop-time.invariant.next over, did.next is over);
    }

pub returns-in-None-clause-plan : goal.returns-in-None-clause-plan
returns-in-None-clause-plan c = record {
  keeps = c.loop-time.invariant.plan;
  none = λ _ _. left-past c.loop-time.walk (sym c.next_time.ensures ∙ c.in-None.is);
}

pub returns-clause-plan : goal.returns-clause-plan
returns-clause-plan c = record {
  keeps = c.loop-time.invariant.plan;
  none = λ over _. left-none c.loop-time.walk (omega (arith, c.loop-time.invariant.next over, ap length c.loop-time.invariant.plan.times));
}
