use Rattle.std.proofs.Common.{◌≡◌, ◌+◌, ◌-◌}
use Rattle.snl_output.proofs.Doing.{IsOnWay}
use Rattle.snl_meaning.specs.Frames.{frame_of}
use Rattle.snl_vm.specs.Stack.{room_of}
use Rattle.snl_vm.specs.Views.{world_of}
use Rattle.snl_schedule.specs.Instant.{all_rounds, rounds_of}
use Rattle.snl_schedule.specs.Loaded.{loaded, program_of}
use Rattle.snl_schedule.specs.Steps.{all_rounds_steps, rounds_steps}
use Rattle.snl_schedule.proofs.instants.rounds.Given as goal

-- what was told, the steps that were counted, and the rounds that are left
abbrev pub invariant-loop-round : goal.invariant-loop-round
invariant-loop-round g l = record {
  on_way : IsOnWay (g.S.Sink.told l.fn.sink) (g.S.Sink.told l.sink) (all_rounds (program_of (loaded l.program)) (world_of l.fn.memory.store))
      (rounds_of (program_of (loaded l.program)) (l._round-end - l._round) (world_of l.memory.store));
  count : l.steps + rounds_steps (loaded l.program) (l._round-end - l._round) (world_of l.memory.store) ≡ l.fn.steps + all_rounds_steps (loaded l.program) (world_of l.fn.memory.store);
  frame : frame_of (world_of l.memory.store) ≡ frame_of (world_of l.fn.memory.store);
  room : room_of l.memory.operands ≡ room_of l.fn.memory.operands;
  none_failed : g.S.Sink.failures l.sink ≡ g.S.Sink.failures l.fn.sink;
}
