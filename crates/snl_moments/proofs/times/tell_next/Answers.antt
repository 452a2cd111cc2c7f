use Rattle.std.proofs.lemmas.Result.{IfOk-weaker}
use Rattle.snl_moments.proofs.PlanLaws.{told-next, told-plan}
use Rattle.snl_moments.proofs.WalkLaws.{tells-at}
use Rattle.snl_moments.proofs.times.tell_next.Goals as goal

pub returns-clause-tells : goal.returns-clause-tells
returns-clause-tells c =
    IfOk-weaker c.tell_time.result _ _
    (λ _ h. tells-at c.args.ms c.in_ok-now.now c.args.walk.now c.wake_up.new.walk c.tell_time.new.walk c.in_ok-now.ensures.asked.same c.in_ok-now.ensures.wakes c.in_ok-now.ensures.still
    c.in_ok-now.ensures.pictures h)
    c.tell_time.ensures.tells

pub returns-clause-plan : goal.returns-clause-plan
returns-clause-plan c =
    IfOk-weaker c.tell_time.result _ _
    (λ _ h. record {
      keeps = told-plan c.args.ms c.args.walk.now c.wake_up.new.walk c.tell_time.new.walk c.in_ok-now.ensures.asked h;
      next = λ is _. told-next c.args.ms c.args.walk.now c.wake_up.new.walk c.tell_time.new.walk c.in_ok-now.ensures.asked h is;
    })
    c.tell_time.ensures.asked
