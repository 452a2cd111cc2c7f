use Rattle.std.proofs.Common.{◌∙◌, ◌+◌, ap, refl, subst, sym}
use Rattle.snl_machine.specs.MachineOf.{world_held}
use Rattle.snl_machine.specs.Snapshots.{Pictures, anew}
use Rattle.snl_machine.specs.declared.machine.Machine.{Machine}
use Rattle.snl_schedule.specs.Event.{wake_before}
use Rattle.snl_moments.proofs.PlanLaws.{same-then, stays-asked, stays-same, stays-then}
use Rattle.snl_moments.proofs.WakeLaws.{due-by}
use Rattle.snl_moments.proofs.WalkLaws.{wakes-keep, wakes-more, wakes-none}
use Rattle.snl_moments.proofs.wakes.wake_up.Goals as goal

pub loop-wake-init : goal.loop-wake-init
loop-wake-init c = record { wakes = wakes-none c.args.ms c.args.walk.now; asked = stays-asked c.args.walk.now c.args.walk.now (stays-same c.args.walk.now) refl }

pub returns-in-None-clause-wakes : goal.returns-in-None-clause-wakes
returns-in-None-clause-wakes c =
    wakes-keep c.args.ms c.args.walk.now c.loop-wake.walk c.note_into.new.walk c.loop-wake.invariant.asked.same c.loop-wake.invariant.wakes c.in_ok-note_into.ensures.keeps
    c.note_into.ensures.machine

pub returns-in-None-clause-still : goal.returns-in-None-clause-still
returns-in-None-clause-still c =
    ap (λ (m : Machine). wake_before (c.args.ms + 1) (world_held m)) c.note_into.ensures.machine
    ∙ due-by c.args.ms c.in_ok-now.now (world_held c.loop-wake.walk.machine) c.wake_in.result c.in_ok-now.ensures c.wake_in.ensures
    ∙ c.in-None.is

pub returns-in-None-clause-pictures : goal.returns-in-None-clause-pictures
returns-in-None-clause-pictures c = subst (λ (m : Machine). Pictures c.in_ok-now.now (anew (world_held m))) (sym c.note_into.ensures.machine) c.in_ok-now.ensures

pub returns-in-None-clause-asked : goal.returns-in-None-clause-asked
returns-in-None-clause-asked c = stays-then c.args.walk.now c.loop-wake.walk c.note_into.new.walk c.loop-wake.invariant.asked c.in_ok-note_into.ensures.asked

pub loop-wake-preserved : goal.loop-wake-preserved
loop-wake-preserved c =
    let s = c.args.walk.now in
    let t = c.loop-wake.walk in
    let u = c.note_into.new.walk in
    let ms = c.args.ms in
    let known = c.loop-wake.invariant in
    let noted = c.in_ok-note_into.ensures in
    let due = ap (λ (m : Machine). wake_before (ms + 1) (world_held m)) c.note_into.ensures.machine
    ∙ due-by ms c.in_ok-now.now (world_held t.machine) c.wake_in.result c.in_ok-now.ensures c.wake_in.ensures
    ∙ c.in-Some.is in
    record {
      wakes = wakes-more ms c.in-Some.wake s u _ (same-then s t u known.asked.same noted.asked.same)
          (wakes-keep ms s t u known.asked.same known.wakes noted.keeps c.note_into.ensures.machine) c.event_at-end.ensures refl refl (record { sort = refl; times = refl; next = refl }) due;
      asked = stays-then s t _ known.asked (stays-then t u _ noted.asked (stays-asked u _ (record { sort = refl; times = refl; next = refl }) refl));
    }
