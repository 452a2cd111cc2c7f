use Rattle.std.proofs.Common.{refl}
use Rattle.snl_output.specs.TraceLines.{lines_to}
use Rattle.snl_heard.proofs.laws.examples_of_printed.Goals as goal

pub returns : goal.returns
unfolding lines_to
returns c = record { run = refl; watch = refl }
