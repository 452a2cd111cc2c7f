use Rattle.std.proofs.Common.{refl}
use Rattle.snl_helps.proofs.laws.examples_of_names.Goals as goal

pub returns : goal.returns
returns c = record { text = refl; reading = refl; channel = refl; number = refl; other_call = refl; constant = refl; other_name = refl }
