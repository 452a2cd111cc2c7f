use Rattle.std.proofs.Common.{refl}
use Rattle.std.specs.Fmt.{digits}
use Rattle.snl_lints.proofs.laws.examples_of_columns.Goals as goal

pub returns : goal.returns
unfolding digits
returns c = record { past_end = refl; first = refl; behind_two = refl; on_second_line = refl; at_end = refl; line = refl }
