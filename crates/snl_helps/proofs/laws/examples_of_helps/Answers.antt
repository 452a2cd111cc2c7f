use Rattle.std.proofs.Common.{refl}
use Rattle.snl_helps.proofs.laws.examples_of_helps.Goals as goal

pub returns : goal.returns
returns c = record { operator = refl; capital = refl; definition = refl; statement = refl; keyword = refl; longer = refl }
