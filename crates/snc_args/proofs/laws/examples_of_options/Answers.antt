use Rattle.std.proofs.Common.{refl}
use Rattle.std.specs.Str.{chars}
use Rattle.snc_args.proofs.laws.examples_of_options.Goals as goal

pub returns : goal.returns
unfolding chars
returns c = (refl, refl, refl, refl, refl, refl, refl, refl, refl, refl, refl, refl, refl)
