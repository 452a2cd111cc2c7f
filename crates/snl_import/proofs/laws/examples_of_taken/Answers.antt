use Rattle.std.proofs.Common.{refl}
use Rattle.snl_import.proofs.laws.examples_of_taken.Goals as goal

pub returns : goal.returns
returns c = record { up = refl; down = refl; value = refl; misfit = refl; other_up = refl; other_value = refl; other_done = refl; tick = refl }
