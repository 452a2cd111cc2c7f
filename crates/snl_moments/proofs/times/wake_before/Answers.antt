use Rattle.std.proofs.Common.{◌∙◌, ◌-◌, ◌<◌, arith, sym}
use Rattle.snl_moments.proofs.LineLaws.{towards-idle, wakes-towards}
use Rattle.snl_moments.proofs.PlanLaws.{into-not, stays-asked, stays-plan, stays-then}
use Rattle.snl_moments.proofs.WalkLaws.{keeps-nears, leaves-keeps}
use Rattle.snl_moments.proofs.times.wake_before.Goals as goal

pub returns-in_ok-_now-in-Some-clause-comes : goal.returns-in_ok-_now-in-Some-clause-comes
returns-in_ok-_now-in-Some-clause-comes c = λ into.
    let s = c.args.walk.now in
    let t = c.time_of.new.walk in
    let u = c.wake_up.new.walk in
    let ms = c.in-Some.ms in
    let early : ms - 1 < ms = omega arith in
    wakes-towards c.args.line.now (ms - 1) s t u (into-not s.sort into) c.time_of.ensures.leaves c.in_ok-_now-in-Some.ensures.asked.same
    (λ r meant. let at = c.in-Some.ensures.time r meant in ((ms, at.0), at.1, early)) c.in_ok-_now-in-Some.ensures.wakes

pub returns-in_ok-_now-in-Some-clause-plan : goal.returns-in_ok-_now-in-Some-clause-plan
returns-in_ok-_now-in-Some-clause-plan c =
    let s = c.args.walk.now in
    let t = c.time_of.new.walk in
    let u = c.wake_up.new.walk in
    let same = c.time_of.ensures.leaves in
    stays-plan s u (stays-then s t u (stays-asked s t same.asked same.told.moments) c.in_ok-_now-in-Some.ensures.asked)

pub returns-in_default-clause-comes : goal.returns-in_default-clause-comes
returns-in_default-clause-comes c = λ into.
    let s = c.args.walk.now in
    let t = c.time_of.new.walk in
    let same = c.time_of.ensures.leaves in
    towards-idle c.args.line.now s t (keeps-nears c.args.line.now s t (leaves-keeps s t same)) (λ is. into-not s.sort into (sym same.asked.sort ∙ is))

pub returns-in_default-clause-plan : goal.returns-in_default-clause-plan
returns-in_default-clause-plan c =
    let s = c.args.walk.now in
    let t = c.time_of.new.walk in
    let same = c.time_of.ensures.leaves in
    stays-plan s t (stays-asked s t same.asked same.told.moments)
