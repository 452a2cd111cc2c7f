use Rattle.std.proofs.Common.{refl}
use Rattle.snl_suite.specs.Escaped.{escaped}
use Rattle.snl_suite.proofs.laws.examples_of_texts.Goals as goal

pub returns : goal.returns
unfolding escaped
returns c = record { all = refl; none = refl }
