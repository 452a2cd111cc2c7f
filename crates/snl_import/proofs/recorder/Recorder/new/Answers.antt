use Rattle.snl_import.proofs.TakenLaws.{nothing-taken}
use Rattle.snl_import.proofs.TraceLaws.{nothing-is}
use Rattle.snl_import.proofs.recorder.Recorder.new.Goals as goal

pub invariant_of-result-clause-events : goal.invariant_of-result-clause-events
invariant_of-result-clause-events g c = nothing-is (0, 0) c.new.result.items c.new.ensures.items

pub invariant_of-result-clause-taken : goal.invariant_of-result-clause-taken
invariant_of-result-clause-taken g c = nothing-taken (g.P.Program.taken c.args.program) c.new.result.items c.new.ensures.items
