use Rattle.std.proofs.Common.{refl}
use Rattle.snl_text.specs.Numbers.{value_in, numeral_value, whole_value, without_suffix}
use Rattle.snl_lints.proofs.laws.examples_of_conditions.Goals as goal

pub returns : goal.returns
unfolding whole_value value_in numeral_value without_suffix
returns c = record { equals = refl; meant = refl; compared = refl; comma = refl; set = refl }
