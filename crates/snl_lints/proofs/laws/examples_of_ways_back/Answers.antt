use Rattle.std.proofs.Common.{refl}
use Rattle.snl_lints.proofs.laws.examples_of_ways_back.Goals as goal

pub returns : goal.returns
returns c = record { left_out = refl; done = refl; no_block = refl }
