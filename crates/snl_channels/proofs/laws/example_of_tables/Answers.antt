use Rattle.std.proofs.Common.{refl}
use Rattle.std.specs.Fmt.{digits}
use Rattle.snl_text.specs.Numbers.{value_in, numeral_value, whole_value, without_suffix}
use Rattle.snl_channels.proofs.laws.example_of_tables.Goals as goal

pub returns : goal.returns
unfolding whole_value value_in numeral_value without_suffix digits
returns c = refl
