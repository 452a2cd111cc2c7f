use Rattle.std.proofs.lemmas.Result.{IfOk-weaker}
use Rattle.snl_machine.specs.MachineOf.{world_held}
use Rattle.snl_moments.proofs.PlanLaws.{told-by}
use Rattle.snl_moments.proofs.TakeLaws.{stands-first}
use Rattle.snl_moments.specs.Plans.{times_of}
use Rattle.snl_moments.proofs.trace_walk.moments.Goals as goal

pub returns-clause-told : goal.returns-clause-told
returns-clause-told g c =
    IfOk-weaker c.walk_over.result _ _
    (λ close h. told-by (times_of c.args.asked) close c.args.walk.now c.ask.new.walk c.walk_over.new.walk c.requires.untold c.in_ok-ask.ensures.told.moments c.in_ok-ask.ensures.asks h)
    c.walk_over.ensures.plan

pub returns-clause-are : goal.returns-clause-are
returns-clause-are g c =
    let s = c.args.walk.now in
    IfOk-weaker c.walk_over.result _ _
    (λ _ h. λ r meant spares early.
    h r (world_held s.machine)
    (stands-first (times_of c.args.asked) r s c.ask.new.walk c.in_ok-ask.ensures.told c.in_ok-ask.ensures.asks meant spares c.requires.untold.moments early))
    c.walk_over.ensures.walked
