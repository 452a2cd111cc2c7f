use Rattle.std.proofs.Common.{◌≡◌, ◌+◌, None, drop}
use Rattle.snl_output.proofs.Doing.{IsOnWay}
use Rattle.snl_meaning.specs.Frames.{frame_of}
use Rattle.snl_vm.specs.Stack.{room_of}
use Rattle.snl_vm.specs.Views.{world_of}
use Rattle.snl_schedule.specs.declared.transitions.Turned.TheVariants.{Stayed}
use Rattle.snl_schedule.specs.Instant.{round_from}
use Rattle.snl_schedule.specs.Loaded.{loaded, sets_from}
use Rattle.snl_schedule.specs.Steps.{round_steps, turns_steps}
use Rattle.snl_schedule.proofs.instants.round.Given as goal

-- what was told, the steps that were counted, and the turns that are left
abbrev pub invariant-loop-set : goal.invariant-loop-set
invariant-loop-set g l = let sets = l.program.plan.now.sets.items in record {
  on_way : IsOnWay (g.S.Sink.told l.fn.sink) (g.S.Sink.told l.sink) (round_from (sets_from (loaded l.program) 0 sets) Stayed (record (world_of l.fn.memory.store) { due = None }))
      (round_from (sets_from (loaded l.program) l.set (drop l.set sets)) l.before (world_of l.memory.store));
  count : l.steps + turns_steps (loaded l.program) l.set (drop l.set sets) l.before (world_of l.memory.store) ≡ l.fn.steps + round_steps (loaded l.program) (world_of l.fn.memory.store);
  frame : frame_of (world_of l.memory.store) ≡ frame_of (world_of l.fn.memory.store);
  room : room_of l.memory.operands ≡ room_of l.fn.memory.operands;
  none_failed : g.S.Sink.failures l.sink ≡ g.S.Sink.failures l.fn.sink;
}
