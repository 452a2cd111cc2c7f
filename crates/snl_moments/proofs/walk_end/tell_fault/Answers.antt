use Rattle.snl_moments.proofs.PlanLaws.{stays-same}
use Rattle.snl_moments.proofs.walk_end.tell_fault.Goals as goal

pub returns-in_default-clause-keeps : goal.returns-in_default-clause-keeps
returns-in_default-clause-keeps c = λ at_end r first gave rest at. at

pub returns-in_default-clause-asked : goal.returns-in_default-clause-asked
returns-in_default-clause-asked c = stays-same c.args.walk.now
