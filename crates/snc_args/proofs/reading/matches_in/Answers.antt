use Rattle.clap.specs.Words.{app_of, is_simple, kind_of}
use Rattle.snc_args.proofs.Arguments.{left}
use Rattle.snc_args.proofs.Faults.{fails}
use Rattle.snc_args.proofs.reading.matches_in.Goals as goal

pub returns-in-Ok-clause-rows : goal.returns-in-Ok-clause-rows
returns-in-Ok-clause-rows c = (c.in-Ok.ensures.matches (left (is_simple (app_of c.args.command)) _ c.requires)).0

pub returns-in-Err-clause-err : goal.returns-in-Err-clause-err
returns-in-Err-clause-err c =
    fails _ (kind_of c.in-Err.error) c.fault_in.result (c.in-Err.ensures.kinds c.requires) c.fault_in.ensures
