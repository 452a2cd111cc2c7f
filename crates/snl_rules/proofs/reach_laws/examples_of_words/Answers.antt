use Rattle.std.proofs.Common.{refl}
use Rattle.snl_text.specs.Numbers.{value_in, numeral_value, whole_value, without_suffix}
use Rattle.snl_rules.proofs.reach_laws.examples_of_words.Goals as goal

pub returns : goal.returns
unfolding whole_value value_in numeral_value without_suffix
returns c = (refl, refl, refl, refl, refl, refl)
