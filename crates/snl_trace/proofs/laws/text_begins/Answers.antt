use Rattle.snl_trace.proofs.RunLaws.{text-begins}
use Rattle.snl_trace.proofs.laws.text_begins.Goals as goal

pub returns : goal.returns
returns c = text-begins
