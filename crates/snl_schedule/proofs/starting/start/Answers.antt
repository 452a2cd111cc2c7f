use Rattle.snl_meaning.specs.declared.live.Live.TheVariants.{Running}
use Rattle.snl_vm.specs.Views.{world_of}
use Rattle.snl_schedule.specs.Instant.{opened}
use Rattle.snl_schedule.specs.Loaded.{loaded, program_of}
use Rattle.snl_schedule.proofs.Telling.{told-then, cut-there}
use Rattle.snl_schedule.proofs.starting.start.Goals as goal

pub returns-in-Ok-clause-does : goal.returns-in-Ok-clause-does
returns-in-Ok-clause-does g c =
    let p = program_of (loaded c.args.program.now) in
    told-then (λ x. x) c.open.result _ (λ _ u. opened p u) (record (world_of c.args.memory.now.store) { phase = Running }) _ _ _ _
    (rw c.as_slice.ensures.value at c.in-Ok.ensures.told) c.open.ensures.does

pub returns-in-Err-clause-does : goal.returns-in-Err-clause-does
returns-in-Err-clause-does g c =
    let p = program_of (loaded c.args.program.now) in
    cut-there _ (λ _ u. opened p u) (record (world_of c.args.memory.now.store) { phase = Running }) _ _ (rw c.as_slice.ensures.value at c.in-Err.ensures.told)
