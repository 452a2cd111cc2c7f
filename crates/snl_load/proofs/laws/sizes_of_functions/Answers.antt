use Rattle.std.proofs.Common.{refl}
use Rattle.snl_text.specs.Numbers.{decimal_value, whole_value, value_in, numeral_value, without_suffix}
use Rattle.snl_load.proofs.laws.sizes_of_functions.Goals as goal

pub returns : goal.returns
unfolding decimal_value whole_value value_in numeral_value without_suffix
returns c = refl
