use Rattle.snl_moments.proofs.DoneLaws.{bad-does, done-plan, well-does, well-ends}
use Rattle.snl_moments.proofs.PlanLaws.{closes-then, plan-then, stays-plan}
use Rattle.snl_moments.proofs.trace_walk.do_line.Goals as goal

pub returns-in_ok-finish_bad-in-Bad-clause-does : goal.returns-in_ok-finish_bad-in-Bad-clause-does
returns-in_ok-finish_bad-in-Bad-clause-does c =
    bad-does c.args.line.now c.in-Bad.number c.in-Bad.fault c.in_ok-finish_bad-in-Bad.field-0 c.args.walk.now c.line_done.new.walk c.finish_bad.new.walk c.requires c.in-Bad.ensures
    c.in_ok-finish_bad-in-Bad.ensures.tells

pub returns-in_ok-finish_bad-in-Bad-clause-plan : goal.returns-in_ok-finish_bad-in-Bad-clause-plan
returns-in_ok-finish_bad-in-Bad-clause-plan c =
    let s = c.args.walk.now in
    let t = c.line_done.new.walk in
    closes-then c.in_ok-finish_bad-in-Bad.field-0 s t c.finish_bad.new.walk (done-plan c.args.line.now _ s t c.line_done.ensures) c.in_ok-finish_bad-in-Bad.ensures.plan

pub returns-in_ok-tell_into-in-Well-None-clause-does : goal.returns-in_ok-tell_into-in-Well-None-clause-does
returns-in_ok-tell_into-in-Well-None-clause-does c =
    well-does c.args.line.now c.in-Well-None.field-0 c.args.walk.now c.line_done.new.walk c.tell_into.new.walk c.requires c.in-Well-None.ensures c.in_ok-tell_into-in-Well-None.ensures.keeps

pub returns-in_ok-tell_into-in-Well-None-clause-plan : goal.returns-in_ok-tell_into-in-Well-None-clause-plan
returns-in_ok-tell_into-in-Well-None-clause-plan c =
    let s = c.args.walk.now in
    let t = c.line_done.new.walk in
    let u = c.tell_into.new.walk in
    plan-then s t u (done-plan c.args.line.now _ s t c.line_done.ensures) (stays-plan t u c.in_ok-tell_into-in-Well-None.ensures.asked)

pub returns-in_ok-finish_amid-in-Well-Some-clause-does : goal.returns-in_ok-finish_amid-in-Well-Some-clause-does
returns-in_ok-finish_amid-in-Well-Some-clause-does c =
    well-ends c.args.line.now c.in-Well-Some.field-0 c.in_ok-finish_amid-in-Well-Some.field-0 c.args.walk.now c.line_done.new.walk c.finish_amid.new.walk c.requires c.in-Well-Some.ensures
    c.in_ok-finish_amid-in-Well-Some.ensures.ends

pub returns-in_ok-finish_amid-in-Well-Some-clause-plan : goal.returns-in_ok-finish_amid-in-Well-Some-clause-plan
returns-in_ok-finish_amid-in-Well-Some-clause-plan c =
    let s = c.args.walk.now in
    let t = c.line_done.new.walk in
    closes-then c.in_ok-finish_amid-in-Well-Some.field-0 s t c.finish_amid.new.walk (done-plan c.args.line.now _ s t c.line_done.ensures) c.in_ok-finish_amid-in-Well-Some.ensures.plan
