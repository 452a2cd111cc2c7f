use Rattle.std.proofs.Common.{refl}
use Rattle.snl_same.specs.Kept.{is_put_again, last_puts}
use Rattle.snl_heard.specs.Words.{behind, word}
use Rattle.snl_same.proofs.laws.examples_of_last_puts.Goals as goal

pub returns : goal.returns
unfolding is_put_again last_puts behind word
returns c = record { one = refl; later = refl }
