use Rattle.snl_views.proofs.Awaiting.{ready_awaits_nothing}
use Rattle.snl_views.proofs.laws.ready_awaits_nothing.Goals as goal

pub returns : goal.returns
returns c = ready_awaits_nothing
