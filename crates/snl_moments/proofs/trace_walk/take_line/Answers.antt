use Rattle.std.proofs.lemmas.Result.{IfOk-weaker}
use Rattle.snl_moments.proofs.PlanLaws.{closes-by, closes-then, goes-then}
use Rattle.snl_moments.proofs.LineLaws.{goes-ended, goes-told, goes-towards}
use Rattle.snl_moments.specs.declared.walks.Close.TheVariants.{Told}
use Rattle.snl_moments.proofs.trace_walk.take_line.Goals as goal

pub returns-then-is_told-clause-goes : goal.returns-then-is_told-clause-goes
returns-then-is_told-clause-goes c = goes-told c.args.line.now Told c.args.walk.now c.come_towards.new.walk c.requires c.in_ok-come_towards.ensures.comes

pub returns-then-is_told-clause-plan : goal.returns-then-is_told-clause-plan
returns-then-is_told-clause-plan c = closes-by Told c.args.walk.now c.come_towards.new.walk c.in_ok-come_towards.ensures.plan (λ _. c.is_told.ensures c.if-is_told.true)

pub returns-in_ok-finish_amid-in-Some-clause-goes : goal.returns-in_ok-finish_amid-in-Some-clause-goes
returns-in_ok-finish_amid-in-Some-clause-goes c =
    goes-ended c.args.line.now c.in_ok-finish_amid-in-Some.field-0 c.args.walk.now c.come_towards.new.walk c.finish_amid.new.walk c.requires c.in_ok-come_towards.ensures.comes
    c.in_ok-finish_amid-in-Some.ensures.ends

pub returns-in_ok-finish_amid-in-Some-clause-plan : goal.returns-in_ok-finish_amid-in-Some-clause-plan
returns-in_ok-finish_amid-in-Some-clause-plan c =
    closes-then c.in_ok-finish_amid-in-Some.field-0 c.args.walk.now c.come_towards.new.walk c.finish_amid.new.walk c.in_ok-come_towards.ensures.plan c.in_ok-finish_amid-in-Some.ensures.plan

pub returns-in-None-clause-goes : goal.returns-in-None-clause-goes
returns-in-None-clause-goes c =
    IfOk-weaker c.do_line.result _ _
    (λ close h. goes-towards c.args.line.now close c.args.walk.now c.come_towards.new.walk c.do_line.new.walk c.requires c.in_ok-come_towards.ensures.comes h)
    c.do_line.ensures.does

pub returns-in-None-clause-plan : goal.returns-in-None-clause-plan
returns-in-None-clause-plan c =
    IfOk-weaker c.do_line.result _ _ (λ close h. goes-then close c.args.walk.now c.come_towards.new.walk c.do_line.new.walk c.in_ok-come_towards.ensures.plan h) c.do_line.ensures.plan
