use Rattle.snl_machine.proofs.Rounds as rounds
use Rattle.snl_machine.proofs.laws.ticks_within_budget.Goals as goal

pub returns : goal.returns
returns c = rounds.ticks_within_budget
