use Rattle.std.proofs.Common.{refl}
use Rattle.snl_text.specs.Numbers.{value_in, numeral_value, whole_value, without_suffix}
use Rattle.snl_lints.proofs.laws.examples_of_operators.Goals as goal

pub returns : goal.returns
unfolding whole_value value_in numeral_value without_suffix
returns c = record { by_zero = refl; by_one = refl; shift = refl; last_shift = refl; overflow = refl; not_reached = refl; assigned = refl; predefined = refl; hidden = refl }
