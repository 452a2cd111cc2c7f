use Rattle.snl_vm.specs.Views.{world_of}
use Rattle.snl_schedule.proofs.turns.evaluated.Goals as goal

pub evaluate-requires-clause-value : goal.evaluate-requires-clause-value
evaluate-requires-clause-value g c = c.requires.runs (world_of c.args.memory.now.store)
