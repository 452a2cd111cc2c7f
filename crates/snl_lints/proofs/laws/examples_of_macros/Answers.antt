use Rattle.std.proofs.Common.{refl}
use Rattle.snl_lints.proofs.laws.examples_of_macros.Goals as goal

pub returns : goal.returns
returns c = record { undefined = refl; by_call = refl; by_program = refl; empty = refl; another = refl; unclosed = refl; closed = refl }
