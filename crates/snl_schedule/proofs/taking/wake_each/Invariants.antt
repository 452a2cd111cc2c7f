use Rattle.std.proofs.Common.{◌≡◌, ◌+◌, ◌-◌}
use Rattle.snl_output.proofs.Doing.{IsOnWay}
use Rattle.snl_vm.specs.Stack.{room_of}
use Rattle.snl_vm.specs.Views.{world_of}
use Rattle.snl_schedule.specs.Event.{all_wakes, wakes_of}
use Rattle.snl_schedule.specs.Loaded.{loaded, program_of}
use Rattle.snl_schedule.specs.Steps.{all_wakes_steps, wakes_steps}
use Rattle.snl_schedule.proofs.Frames.{SameButTime}
use Rattle.snl_schedule.proofs.Waking.{IsPast}
use Rattle.snl_schedule.proofs.taking.wake_each.Given as goal

-- what was told, the steps that were counted, the wakes that are over, and those that are left
abbrev pub invariant-loop-wake : goal.invariant-loop-wake
invariant-loop-wake g l = let p = program_of (loaded l.program) in record {
  on_way : IsOnWay (g.S.Sink.told l.fn.sink) (g.S.Sink.told l.sink) (all_wakes p l.program.budget l.ms (world_of l.fn.memory.store))
      (wakes_of p l.program.budget l.ms (l.ms - l._wake) (world_of l.memory.store));
  count : l.steps + wakes_steps (loaded l.program) l.program.budget l.ms (l.ms - l._wake) (world_of l.memory.store) ≡
      l.fn.steps + all_wakes_steps (loaded l.program) l.program.budget l.ms (world_of l.fn.memory.store);
  past : IsPast p l.program.budget l.ms (world_of l.fn.memory.store) (world_of l.memory.store);
  frame : SameButTime (world_of l.fn.memory.store) (world_of l.memory.store);
  room : room_of l.memory.operands ≡ room_of l.fn.memory.operands;
  none_failed : g.S.Sink.failures l.sink ≡ g.S.Sink.failures l.fn.sink;
}
