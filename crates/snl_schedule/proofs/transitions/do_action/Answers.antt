use Rattle.snl_vm.specs.Views.{world_of}
use Rattle.snl_schedule.proofs.transitions.do_action.Goals as goal

pub perform-requires-clause-over : goal.perform-requires-clause-over
perform-requires-clause-over g c = c.requires.clause.block (world_of c.args.memory.now.store)
