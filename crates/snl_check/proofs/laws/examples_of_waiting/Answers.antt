use Rattle.std.proofs.Common.{refl}
use Rattle.snl_check.proofs.laws.examples_of_waiting.Goals as goal

pub returns : goal.returns
returns c = record { plain = refl; plus = refl; minus = refl; last = refl }
