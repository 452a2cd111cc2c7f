use Rattle.std.proofs.Common.{◌∙◌, ◌++◌, ap, append-nil, get_or, sym}
use Rattle.std.proofs.lemmas.List.{drop_all, get_or_default}
use Rattle.snl_tallies.specs.Counts.{counts_of}
use Rattle.snl_coverage.proofs.Sums.{next-count}
use Rattle.snl_coverage.proofs.tallies.push_lines.Goals as goal

pub loop-number-preserved : goal.loop-number-preserved
loop-number-preserved c =
    let l = c.loop-number in
    let shown = c.args.shown.now in
    let count = get_or shown l.number 0 in
    next-count shown (counts_of l.tallies.items) (counts_of c.push_tally.new.tallies.items) l.number count _ c.loop-number-test.true
    (get_or_default shown l.number 0 count c.loop-number-test.true) l.invariant c.in_ok-push_tally.ensures

pub returns : goal.returns
returns c =
    let counts = counts_of c.loop-number.tallies.items in
    sym (append-nil counts) ∙ ap (λ l. counts ++ l) (sym (drop_all c.loop-number.number c.args.shown.now c.loop-number-test.false)) ∙ c.loop-number.invariant
