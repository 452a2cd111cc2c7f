use Rattle.snl_text.specs.Cut.{nothing_read}
use Rattle.snl_text.proofs.Ascending.{ascend, none_yet}
use Rattle.snl_text.proofs.laws.tokens_ascend.Goals as goal

pub returns : goal.returns
returns c = λ source lexemes end rest cut. (ascend nothing_read source lexemes end rest none_yet cut).rises
