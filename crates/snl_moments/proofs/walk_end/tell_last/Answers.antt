use Rattle.std.proofs.Common.{refl}
use Rattle.std.proofs.lemmas.Result.{IfOk-weaker}
use Rattle.snl_moments.proofs.PlanLaws.{keeps-plan, not-over}
use Rattle.snl_moments.proofs.WalkLaws.{tells-last}
use Rattle.snl_moments.proofs.walk_end.tell_last.Goals as goal

pub returns-then-is_last-clause-ends : goal.returns-then-is_last-clause-ends
returns-then-is_last-clause-ends c =
    IfOk-weaker c.tell_next.result _ _
    (λ _ h. λ next. tells-last c.args.is_over c.args.ms c.args.walk.now c.tell_next.new.walk (c.is_last.ensures.which c.if-is_last.true) h next) c.tell_next.ensures.tells

pub returns-then-is_last-clause-plan : goal.returns-then-is_last-clause-plan
returns-then-is_last-clause-plan c = IfOk-weaker c.tell_next.result _ _ (λ _ h. record { keeps = h.keeps; next = λ is _. h.next is refl }) c.tell_next.ensures.plan

pub returns-clause-ends : goal.returns-clause-ends
returns-clause-ends c = λ _ r first gave rest over at. at

pub returns-clause-plan : goal.returns-clause-plan
returns-clause-plan c = record {
  keeps = λ _. keeps-plan c.args.walk.now;
  next = λ _ over. not-over c.args.is_over c.is_last.result over c.if-is_last.false c.is_last.ensures.over;
}
