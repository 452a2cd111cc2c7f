use Rattle.std.proofs.Common.{refl}
use Rattle.snl_text.specs.Numbers.{value_in, numeral_value, whole_value, without_suffix}
use Rattle.snl_lints.proofs.laws.examples_of_copies.Goals as goal

pub returns : goal.returns
unfolding whole_value value_in numeral_value without_suffix
returns c = record { apart = refl; alone = refl; only_read = refl; brought = refl }
