use Rattle.std.proofs.Common.{refl}
use Rattle.snl_rules.proofs.laws.examples_of_function_words.Goals as goal

pub returns : goal.returns
returns c = refl
