use Rattle.std.proofs.Common.{refl}
use Rattle.snl_text.specs.Numbers.{decimal_value, numeral_value}
use Rattle.snl_resolve.proofs.laws.examples_of_sites.Goals as goal

pub returns : goal.returns
unfolding decimal_value numeral_value
returns c = (refl, refl, refl, refl, refl, refl, refl)
