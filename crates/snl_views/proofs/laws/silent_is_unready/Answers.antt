use Rattle.snl_views.proofs.Silent.{silent_is_unready}
use Rattle.snl_views.proofs.laws.silent_is_unready.Goals as goal

pub returns : goal.returns
returns c = silent_is_unready
