use Rattle.std.proofs.Common.{refl}
use Rattle.snl_text.specs.Numbers.{value_in, numeral_value, whole_value, without_suffix}
use Rattle.snl_lints.proofs.laws.examples_of_variables.Goals as goal

pub returns : goal.returns
unfolding whole_value value_in numeral_value without_suffix
returns c = record { stale = refl; by_monitor = refl; by_get = refl; no_channel = refl; empty_name = refl; unput = refl; put = refl; unread = refl; flagged = refl; answered = refl; async = refl }
