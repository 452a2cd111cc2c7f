use Rattle.std.proofs.Common.{◌∙◌}
use Rattle.snl_moments.proofs.PlanLaws.{closes-by}
use Rattle.snl_moments.specs.declared.walks.Close.TheVariants.{Ended}
use Rattle.snl_moments.proofs.walk_end.finish_amid.Goals as goal

pub returns-clause-plan : goal.returns-clause-plan
returns-clause-plan c =
    let keeps = c.in_ok-finish.ensures.plan.keeps in
    closes-by (Ended c.args.end) c.args.walk.now c.finish.new.walk keeps (λ is. c.has_left.ensures c.if-has_left.false (keeps.sort ∙ is))
