use Rattle.std.proofs.Common.{◌++◌, ◌∙◌, ap, arith, drop, sym, take}
use Rattle.std.proofs.lemmas.List.{drop_all, take-append-drop}
use Rattle.snl_coverage.specs.Coverage.{both}
use Rattle.snl_coverage.proofs.Counting.{both-none}
use Rattle.snl_coverage.proofs.coverage.add_counts.Goals as goal

pub returns : goal.returns
returns c =
    let n = c.loop-number.number in
    let counts = c.loop-number.counts.items in
    let others = c.args.others.now in
    let none = drop_all n others (omega (arith, c.loop-number-test.false)) in
    let left = both-none (drop n counts) in
    sym (take-append-drop n counts) ∙ ap (λ l. take n counts ++ l) (sym (ap (both (drop n counts)) none ∙ left)) ∙ c.loop-number.invariant
