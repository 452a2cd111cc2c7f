use Rattle.std.proofs.Common.{◌≡◌, ◌+◌, ◌-◌, arith}
use Rattle.snl_output.proofs.Doing.{gave-is}
use Rattle.snl_vm.specs.Views.{world_of}
use Rattle.snl_schedule.specs.Event.{all_wakes}
use Rattle.snl_schedule.specs.Loaded.{loaded, program_of}
use Rattle.snl_schedule.specs.Steps.{wakes_steps}
use Rattle.snl_schedule.proofs.Counting.{uncounted}
use Rattle.snl_schedule.proofs.Waking.{no-wakes}
use Rattle.snl_schedule.proofs.taking.wake_up.Goals as goal

pub returns-in-None-clause-does : goal.returns-in-None-clause-does
returns-in-None-clause-does g c =
    let p = program_of (loaded c.args.program.now) in
    let w = world_of c.args.memory.now.store in
    gave-is tt w (g.S.Sink.told c.args.sink.now) (all_wakes p c.args.program.now.budget c.args.ms w) (no-wakes p c.args.program.now.budget c.args.ms (c.args.ms - w.time) w c.in-None.is)

pub returns-in-None-clause-steps : goal.returns-in-None-clause-steps
returns-in-None-clause-steps g c =
    let w = world_of c.args.memory.now.store in
    let none : wakes_steps (loaded c.args.program.now) c.args.program.now.budget c.args.ms (c.args.ms - w.time) w ≡ 0 =
    uncounted (loaded c.args.program.now) c.args.program.now.budget c.args.ms (c.args.ms - w.time) w c.in-None.is in
    omega (arith, none)
