use Rattle.snl_machine.proofs.Refreshed.{refreshes_fill_variables}
use Rattle.snl_machine.proofs.laws.refreshes_fill_variables.Goals as goal

pub returns : goal.returns
returns c = refreshes_fill_variables
