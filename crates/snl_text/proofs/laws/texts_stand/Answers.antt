use Rattle.snl_text.proofs.Texts.{text_stands}
use Rattle.snl_text.proofs.laws.texts_stand.Goals as goal

pub returns : goal.returns
returns c = text_stands
