use Rattle.std.proofs.Common.{◌≡◌, ◌+◌, drop}
use Rattle.snl_output.proofs.Doing.{IsOnWay}
use Rattle.snl_meaning.specs.Frames.{frame_of}
use Rattle.snl_vm.specs.Stack.{room_of}
use Rattle.snl_vm.specs.Views.{world_of}
use Rattle.snl_schedule.specs.Instant.{begun_sets}
use Rattle.snl_schedule.specs.Loaded.{loaded, sets_from}
use Rattle.snl_schedule.specs.Steps.{begun_sets_steps}
use Rattle.snl_schedule.proofs.starting.begin_sets.Given as goal

-- what was told, the steps that were counted, and the state sets that are left
abbrev pub invariant-loop-set : goal.invariant-loop-set
invariant-loop-set g l = let sets = l.program.plan.now.sets.items in let t = loaded l.program in record {
  on_way : IsOnWay (g.S.Sink.told l.fn.sink) (g.S.Sink.told l.sink) (begun_sets (sets_from t 0 sets) (world_of l.fn.memory.store))
      (begun_sets (sets_from t l.set (drop l.set sets)) (world_of l.memory.store));
  count : l.steps + begun_sets_steps t l.set (drop l.set sets) (world_of l.memory.store) ≡ l.fn.steps + begun_sets_steps t 0 sets (world_of l.fn.memory.store);
  frame : frame_of (world_of l.memory.store) ≡ frame_of (world_of l.fn.memory.store);
  room : room_of l.memory.operands ≡ room_of l.fn.memory.operands;
  none_failed : g.S.Sink.failures l.sink ≡ g.S.Sink.failures l.fn.sink;
}
