use Rattle.snl_meaning.proofs.Texts.{texts-found}
use Rattle.snl_meaning.proofs.laws.texts_are_found.Goals as goal

pub returns : goal.returns
returns c = texts-found
