use Rattle.std.proofs.Common.{◌∙◌, sym}
use Rattle.std.proofs.lemmas.List.{append_cancel_left}
use Rattle.snl_tallies.specs.Counts.{text_of}
use Rattle.snl_tallies.proofs.TextLaws.{counts-once}
use Rattle.snl_tallies.proofs.laws.file_tells_its_counts.Goals as goal

pub returns : goal.returns
returns c head names ns ms text one other =
    counts-once names ns ms one.each other.each one.small other.small
    (append_cancel_left head (text_of names ns) (text_of names ms) (sym one.text_is ∙ other.text_is))
