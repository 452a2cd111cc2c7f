use Rattle.std.proofs.lemmas.Result.{IfOk-weaker}
use Rattle.snl_moments.proofs.WalkLaws.{tells-trip}
use Rattle.snl_moments.proofs.walk_end.tell_trip.Goals as goal

pub returns-clause-keeps : goal.returns-clause-keeps
returns-clause-keeps c = IfOk-weaker c.tell.result _ _ (λ _ h. tells-trip c.in_ok-now.now c.args.walk.now c.tell.new.walk c.in_ok-now.ensures h) c.tell.ensures.tells

pub returns-clause-asked : goal.returns-clause-asked
returns-clause-asked c = IfOk-weaker c.tell.result _ _ (λ _ h. h.same) c.tell.ensures.asked
