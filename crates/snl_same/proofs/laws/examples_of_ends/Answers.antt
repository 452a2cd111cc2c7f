use Rattle.std.proofs.Common.{refl}
use Rattle.snl_same.proofs.laws.examples_of_ends.Goals as goal

pub returns : goal.returns
returns c = record { placeless = λ fault. refl; alone = λ alike. cc }
