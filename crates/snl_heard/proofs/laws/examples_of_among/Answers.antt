use Rattle.std.proofs.Common.{refl}
use Rattle.std.specs.Fmt.{digits}
use Rattle.snl_heard.specs.Heard.{among, entered, heard_all, number_from}
use Rattle.snl_heard.specs.Words.{behind, word}
use Rattle.snl_heard.proofs.laws.examples_of_among.Goals as goal

pub returns : goal.returns
unfolding digits behind word entered number_from among heard_all
returns c = record { wake = refl; none = refl; late = refl }
