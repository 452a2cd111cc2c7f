use Rattle.std.proofs.Common.{refl}
use Rattle.std.specs.Fmt.{digits}
use Rattle.snl_text.specs.Numbers.{decimal_value, whole_value, value_in, numeral_value, without_suffix}
use Rattle.snl_load.proofs.laws.examples.Goals as goal

pub returns : goal.returns
unfolding digits decimal_value whole_value value_in numeral_value without_suffix
returns c = (refl, refl, refl)
