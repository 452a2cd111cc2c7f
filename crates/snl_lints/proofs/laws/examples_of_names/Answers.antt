use Rattle.std.proofs.Common.{refl}
use Rattle.snl_lints.proofs.laws.examples_of_names.Goals as goal

pub returns : goal.returns
returns c = record { blank = refl; by_macro = refl; control = refl; above = refl; told = refl; nothing = refl }
