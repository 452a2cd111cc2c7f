use Rattle.std.proofs.Common.{refl}
use Rattle.snl_output.specs.TraceLines.{lines_to}
use Rattle.snl_trace.proofs.laws.examples_of_lines.Goals as goal

pub returns : goal.returns
unfolding lines_to
returns c = (refl, refl, refl)
