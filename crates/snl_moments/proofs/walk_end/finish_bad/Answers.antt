use Rattle.std.proofs.Common.{◌∙◌, sym}
use Rattle.snl_moments.proofs.PlanLaws.{closes-bad, closes-none}
use Rattle.snl_moments.proofs.WalkLaws.{tells-bad}
use Rattle.snl_moments.specs.declared.walks.Close.TheVariants.{Ended}
use Rattle.snl_trace.specs.declared.runner.End.TheVariants.{TraceFault}
use Rattle.snl_moments.proofs.walk_end.finish_bad.Goals as goal

pub returns-in-Some-clause-tells : goal.returns-in-Some-clause-tells
returns-in-Some-clause-tells c =
    tells-bad c.in-Some.ms c.in_ok-now.now c.args.walk.now c.tell.new.walk c.in_ok-now.ensures c.in_ok-tell.ensures.tells
    (sym c.next_time.ensures ∙ c.in-Some.is)

pub returns-in-Some-clause-plan : goal.returns-in-Some-clause-plan
returns-in-Some-clause-plan c = closes-bad c.in-Some.ms c.args.number c.args.fault c.args.walk.now c.tell.new.walk c.in_ok-tell.ensures.asked (sym c.next_time.ensures ∙ c.in-Some.is)

pub returns-clause-tells : goal.returns-clause-tells
returns-clause-tells c = λ r first gave rest bad at. at

pub returns-clause-plan : goal.returns-clause-plan
returns-clause-plan c = closes-none (Ended (TraceFault c.args.number c.args.fault)) c.args.walk.now (sym c.next_time.ensures ∙ c.in_default.is)
