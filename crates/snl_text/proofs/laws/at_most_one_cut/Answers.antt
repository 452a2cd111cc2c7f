use Rattle.std.proofs.Common.{[]}
use Rattle.snl_text.proofs.Cuts.{at_end, one_cut}
use Rattle.snl_text.proofs.laws.at_most_one_cut.Goals as goal

pub returns : goal.returns
returns c = λ source lexemes others end there cut other.
    let one = one_cut source lexemes others end there [] [] cut (at_end end) other (at_end there) in
    (one.0, one.1)
