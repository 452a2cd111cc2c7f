use Rattle.snl_import.proofs.TraceLaws.{leads-on}
use Rattle.snl_import.proofs.laws.events_go_on.Goals as goal

pub returns : goal.returns
returns c = leads-on
