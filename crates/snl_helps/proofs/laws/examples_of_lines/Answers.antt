use Rattle.std.proofs.Common.{refl}
use Rattle.snl_helps.proofs.laws.examples_of_lines.Goals as goal

pub returns : goal.returns
returns c = record { itself = refl; behind = refl; below = refl; none = refl }
