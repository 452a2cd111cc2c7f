use Rattle.snl_trace.proofs.SameRuns.{on_its_program}
use Rattle.snl_trace.proofs.runner.run.Goals as goal

pub returns-clause-means : goal.returns-clause-means
returns-clause-means g c p ls waits budget made =
    on_its_program c.args.machine.now p ls waits budget made c.run_counted.result _ _ _ _ _ _ c.run_counted.ensures.does
