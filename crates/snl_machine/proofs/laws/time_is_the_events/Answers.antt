use Rattle.snl_machine.proofs.Wakes.{time_is_the_events}
use Rattle.snl_machine.proofs.laws.time_is_the_events.Goals as goal

pub returns : goal.returns
returns c = time_is_the_events
