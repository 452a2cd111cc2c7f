use Rattle.snl_meaning.proofs.Calls.{calls_forget_parameters}
use Rattle.snl_meaning.proofs.laws.calls_forget_parameters.Goals as goal

pub returns : goal.returns
returns c = calls_forget_parameters
