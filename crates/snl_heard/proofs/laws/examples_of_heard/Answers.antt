use Rattle.std.proofs.Common.{refl}
use Rattle.std.specs.Fmt.{digits}
use Rattle.snl_heard.specs.Heard.{entered, number_from}
use Rattle.snl_heard.specs.Words.{behind, word}
use Rattle.snl_heard.proofs.laws.examples_of_heard.Goals as goal

pub returns : goal.returns
unfolding digits behind word entered number_from
returns c = record { put = refl; array = refl; go = refl; second = refl; start = refl; print = refl; exit = refl; fault = refl }
