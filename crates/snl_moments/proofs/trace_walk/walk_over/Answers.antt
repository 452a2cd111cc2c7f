use Rattle.std.proofs.Common.{◌≡◌, ◌∙◌, ◌<◌, length, refl, arith, true}
use Rattle.snl_moments.proofs.PlanLaws.{closes-source, closes-then, keeps-plan, plan-then}
use Rattle.snl_moments.proofs.TakeLaws.{under_way-broken, under_way-ended, under_way-ends, under_way-on, under_way-start}
use Rattle.snl_trace.proofs.SourceLaws.{says-end}
use Rattle.snl_moments.proofs.trace_walk.walk_over.Goals as goal

pub loop-reads-init : goal.loop-reads-init
loop-reads-init g c = record { way = under_way-start _ _ _ c.requires.fresh c.new-begun.ensures; plan = keeps-plan _; room = refl; works = refl }

pub returns-in-Err-clause-walked : goal.returns-in-Err-clause-walked
returns-in-Err-clause-walked g c = under_way-broken _ _ _ (g.R.Source.ended c.read.new.self) _ _ c.loop-reads.invariant.way c.in-Err.ensures.gave

pub returns-in-Err-clause-plan : goal.returns-in-Err-clause-plan
returns-in-Err-clause-plan g c = closes-source _ _ c.loop-reads.invariant.plan

pub end_trace-requires : goal.end_trace-requires
end_trace-requires g c = rw c.as_slice.ensures.value c.loop-reads.invariant.way.plain

pub returns-in-Ok-eq0-clause-walked : goal.returns-in-Ok-eq0-clause-walked
returns-in-Ok-eq0-clause-walked g c =
    let some : 0 < length c.loop-reads.room = omega (arith, c.loop-reads.invariant.room) in
    let nothing : c.in-Ok-eq0.field-0 ≡ 0 = omega arith in
    let ended : g.R.Source.ended c.read.new.self ≡ true = c.in-Ok-eq0.ensures.ended ∙ says-end c.in-Ok-eq0.field-0 (length c.loop-reads.room) nothing some in
    under_way-ended _ _ c.in-Ok-eq0.field-0 c.read.new.room _ _ _ _ c.end_trace.new.walk c.loop-reads.invariant.way c.in-Ok-eq0.ensures.gave nothing ended
    (rw c.as_slice.ensures.value at c.in_ok-close-in-Ok-eq0.ensures.ends)

pub returns-in-Ok-eq0-clause-plan : goal.returns-in-Ok-eq0-clause-plan
returns-in-Ok-eq0-clause-plan g c =
    closes-then c.in_ok-close-in-Ok-eq0.close _ _ c.end_trace.new.walk c.loop-reads.invariant.plan c.in_ok-close-in-Ok-eq0.ensures.plan

pub take_in-requires : goal.take_in-requires
take_in-requires g c = c.loop-reads.invariant.way.plain

pub returns-in-Some-clause-walked : goal.returns-in-Some-clause-walked
returns-in-Some-clause-walked g c =
    under_way-ends c.in-Some.close _ _ _ _ c.take_in.new.begun.items (g.R.Source.ended c.read.new.self) _ _ c.take_in.new.walk c.loop-reads.invariant.way
    c.in-Ok.ensures.gave (rw c.in-Some.is at c.in_ok-close-in-Ok.ensures.takes)

pub returns-in-Some-clause-plan : goal.returns-in-Some-clause-plan
returns-in-Some-clause-plan g c = closes-then c.in-Some.close _ _ c.take_in.new.walk c.loop-reads.invariant.plan (rw c.in-Some.is at c.in_ok-close-in-Ok.ensures.plan)

pub loop-reads-preserved : goal.loop-reads-preserved
loop-reads-preserved g c = record {
  way = under_way-on _ _ _ _ _ _ _ _ c.loop-reads.invariant.way c.in-Ok.ensures.gave (rw c.in-None.is at c.in_ok-close-in-Ok.ensures.takes);
  plan = plan-then _ _ _ c.loop-reads.invariant.plan (rw c.in-None.is at c.in_ok-close-in-Ok.ensures.plan);
  room = omega (arith, c.read.auto.room, c.loop-reads.invariant.room);
  works = c.in-Ok.ensures.failures ∙ c.loop-reads.invariant.works;
}
