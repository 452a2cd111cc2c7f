use Rattle.snl_trace.proofs.RunLaws.{run_from-append}
use Rattle.snl_trace.proofs.laws.rest_goes_on.Goals as goal

pub returns : goal.returns
returns c = run_from-append
