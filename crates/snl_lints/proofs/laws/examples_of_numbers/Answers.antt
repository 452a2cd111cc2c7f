use Rattle.std.proofs.Common.{refl}
use Rattle.snl_text.specs.Numbers.{value_in, numeral_value, whole_value, without_suffix}
use Rattle.snl_lints.proofs.laws.examples_of_numbers.Goals as goal

pub returns : goal.returns
unfolding whole_value value_in numeral_value without_suffix
returns c = record { lacked = refl; had = refl; signed = refl; varies = refl; outside = refl; inside = refl; below = refl; begun = refl; begun_well = refl }
