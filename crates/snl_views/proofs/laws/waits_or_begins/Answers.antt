use Rattle.snl_views.proofs.Still.{waits_or_begins}
use Rattle.snl_views.proofs.laws.waits_or_begins.Goals as goal

pub returns : goal.returns
returns c = waits_or_begins
