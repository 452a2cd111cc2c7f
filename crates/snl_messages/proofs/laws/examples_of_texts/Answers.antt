use Rattle.std.proofs.Common.{refl}
use Rattle.snl_messages.proofs.laws.examples_of_texts.Goals as goal

pub returns : goal.returns
returns c = (
  (refl, refl, refl, refl, refl),
  (refl, refl, refl, refl, refl, refl, refl, refl, refl, refl, refl, refl),
  (refl, refl, refl, refl, refl, refl, refl, refl, refl, refl, refl, refl, refl, refl, refl, refl),
  (refl, refl, refl, refl, refl, refl),
  (refl, refl, refl, refl, refl, refl),
)
