use Rattle.std.proofs.Common.{refl}
use Rattle.snl_trace.specs.Run.{run_from}
use Rattle.snl_trace.proofs.laws.nothing_follows.Goals as goal

pub returns : goal.returns
unfolding run_from
returns c = λ rules number w. refl
