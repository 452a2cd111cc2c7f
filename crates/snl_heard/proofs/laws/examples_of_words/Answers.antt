use Rattle.std.proofs.Common.{refl}
use Rattle.std.specs.Fmt.{digits}
use Rattle.snl_heard.specs.Words.{behind, word}
use Rattle.snl_heard.proofs.laws.examples_of_words.Goals as goal

pub returns : goal.returns
unfolding digits behind word
returns c = record { time = refl; kind = refl; rest = refl; set = refl; target = refl; end = refl; same = refl; other = refl }
