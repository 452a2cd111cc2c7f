use Rattle.snl_written.proofs.EventLaws.{lines-are-events}
use Rattle.snl_written.proofs.laws.lines_are_events.Goals as goal

pub returns : goal.returns
returns c = lines-are-events
