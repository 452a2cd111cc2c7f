use Rattle.std.proofs.Common.{refl}
use Rattle.snl_moments.proofs.PlanLaws.{stays-asked, stays-same}
use Rattle.snl_moments.proofs.walk_end.tell_into.Goals as goal

pub returns-then-not-is_sought-clause-keeps : goal.returns-then-not-is_sought-clause-keeps
returns-then-not-is_sought-clause-keeps c = λ at_end r first gave rest at. at

pub returns-then-not-is_sought-clause-asked : goal.returns-then-not-is_sought-clause-asked
returns-then-not-is_sought-clause-asked c = stays-asked c.args.walk.now c.args.walk.now (stays-same c.args.walk.now) refl
