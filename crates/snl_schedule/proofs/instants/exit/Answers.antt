use Rattle.snl_output.proofs.Doing.{does-then, stopped-then}
use Rattle.snl_vm.specs.Views.{world_of}
use Rattle.snl_schedule.specs.Instant.{owned, closed_by}
use Rattle.snl_schedule.specs.Loaded.{loaded, program_of}
use Rattle.snl_schedule.proofs.instants.exit.Goals as goal

pub returns-in-Ok-clause-does : goal.returns-in-Ok-clause-does
returns-in-Ok-clause-does g c =
    let p = program_of (loaded c.args.program.now) in
    does-then (λ x. x) c.close.result (owned p p.exit (world_of c.args.memory.now.store)) (λ _ u. closed_by p.name u) _ _ _ _ _ _ c.in-Ok.ensures.does
    (rw c.as_slice.ensures.value at c.close.ensures.does)

pub returns-in-Err-clause-does : goal.returns-in-Err-clause-does
returns-in-Err-clause-does g c =
    let p = program_of (loaded c.args.program.now) in
    stopped-then (λ x. x) (λ x. x) c.in-Err.stop (owned p p.exit (world_of c.args.memory.now.store)) (λ _ u. closed_by p.name u) _ _ _ c.in-Err.ensures.does
