use Rattle.snl_forgetting.proofs.Effects.{no_call_leaves_words}
use Rattle.snl_forgetting.proofs.laws.no_call_leaves_words.Goals as goal

pub returns : goal.returns
returns c = no_call_leaves_words
