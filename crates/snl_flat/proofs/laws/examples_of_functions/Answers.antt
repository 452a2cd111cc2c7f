use Rattle.std.proofs.Common.{refl}
use Rattle.snl_text.specs.Numbers.{whole_value, value_in, numeral_value, without_suffix}
use Rattle.snl_flat.proofs.laws.examples_of_functions.Goals as goal

pub returns : goal.returns
unfolding whole_value value_in numeral_value without_suffix
returns c = (refl, refl, refl, refl, refl, refl, refl)
