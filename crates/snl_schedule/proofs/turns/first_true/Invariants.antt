use Rattle.std.proofs.Common.{◌≡◌, ◌+◌, ℕ, drop, map}
use Rattle.snl_output.proofs.Doing.{IsOnWay}
use Rattle.snl_meaning.specs.Frames.{frame_of}
use Rattle.snl_vm.specs.Stack.{room_of}
use Rattle.snl_vm.specs.Views.{world_of}
use Rattle.snl_schedule.specs.Plans.{clause_of, context_on}
use Rattle.snl_meaning.specs.World.{World}
use Rattle.snl_schedule.specs.declared.plans.ClausePlan.{ClausePlan}
use Rattle.snl_schedule.specs.Steps.{chosen_steps}
use Rattle.snl_schedule.specs.Turn.{chosen}
use Rattle.snl_schedule.proofs.turns.first_true.Given as goal

-- what was told, the steps that were counted, and the choice among the clauses that are left
abbrev pub invariant-loop-clause : goal.invariant-loop-clause
invariant-loop-clause g l = let f = clause_of (context_on l.state_set) l.state_set.code.now in record {
  on_way : IsOnWay (g.S.Sink.told l.fn.sink) (g.S.Sink.told l.sink) (chosen (map f l.clauses) (world_of l.fn.memory.store)) (chosen (map f (drop l.clause-index l.clauses)) (world_of l.memory.store));
  count : (fire : ClausePlan → World → ℕ) → l.steps + chosen_steps (context_on l.state_set) l.state_set.code.now fire (drop l.clause-index l.clauses) (world_of l.memory.store)
      ≡ l.fn.steps + chosen_steps (context_on l.state_set) l.state_set.code.now fire l.clauses (world_of l.fn.memory.store);
  frame : frame_of (world_of l.memory.store) ≡ frame_of (world_of l.fn.memory.store);
  room : room_of l.memory.operands ≡ room_of l.fn.memory.operands;
  none_failed : g.S.Sink.failures l.sink ≡ g.S.Sink.failures l.fn.sink;
}
