use Rattle.snl_meaning.proofs.Calls.{calls_forget_variables}
use Rattle.snl_meaning.proofs.laws.calls_forget_variables.Goals as goal

pub returns : goal.returns
returns c = calls_forget_variables
