use Rattle.snl_import.proofs.TakenLaws.{nothing-taken}
use Rattle.snl_import.proofs.TraceLaws.{nothing-is}
use Rattle.snl_import.proofs.recorder.Recorder.clear.Goals as goal

pub invariant_of-self-clause-events : goal.invariant_of-self-clause-events
invariant_of-self-clause-events g c = nothing-is (c.args.self.now.last, c.args.self.now.written) c.clear.new.self.items c.clear.ensures.items

pub invariant_of-self-clause-taken : goal.invariant_of-self-clause-taken
invariant_of-self-clause-taken g c = nothing-taken (g.P.Program.taken c.args.self.now.program) c.clear.new.self.items c.clear.ensures.items
