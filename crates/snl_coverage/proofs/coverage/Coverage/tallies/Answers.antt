use Rattle.std.proofs.Common.{◌∙◌, ◌++◌, ap}
use Rattle.snl_tallies.specs.Counts.{counts_of}
use Rattle.snl_coverage.proofs.coverage.Coverage.tallies.Goals as goal

pub returns : goal.returns
returns c =
    let others = counts_of c.push_others.new.tallies.items in
    (others, c.in_ok-push_lines.ensures ∙ ap (λ l. others ++ l) c.as_slice.ensures.value)
