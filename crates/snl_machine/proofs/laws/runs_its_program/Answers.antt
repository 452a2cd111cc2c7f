use Rattle.snl_machine.proofs.Tasks as tasks
use Rattle.snl_machine.proofs.laws.runs_its_program.Goals as goal

pub returns : goal.returns
returns c = tasks.runs_its_program
