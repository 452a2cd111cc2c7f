use Rattle.std.proofs.Common.{refl}
use Rattle.snl_heard.specs.Words.{behind, word}
use Rattle.snl_same.proofs.laws.examples_of_words.Goals as goal

pub returns : goal.returns
unfolding behind word
returns c = record { time = refl; channel = refl; put = refl; print = refl; go = refl }
