use Rattle.std.proofs.Common.{◌≡◌, ◌∙◌, ◌++◌, List, ℕ, ap, append-nil, drop, sym}
use Rattle.std.proofs.lemmas.List.{drop_all}
use Rattle.snl_tallies.specs.Counts.{counts_of, line_of, names_of, text_of}
use Rattle.snl_tallies.specs.declared.tally.Tally.{Tally}
use Rattle.snl_tallies.proofs.ReadLaws.{write-on}
use Rattle.snl_tallies.proofs.tally.push_tallies.Goals as goal

pub loop-tally-preserved : goal.loop-tally-preserved
loop-tally-preserved c =
    write-on c.args.tallies.now c.loop-tally.tally-index c.tally-item.result c.loop-tally.out.items c.push_line.new.out.items _
    c.loop-tally-test.true c.tally-item.is c.loop-tally.invariant
    (c.in_ok-push_line.ensures ∙ ap (λ name. c.loop-tally.out.items ++ line_of name c.tally-item.result.count) c.as_slice.ensures.value)

pub returns : goal.returns
returns c =
    let lines : List Tally → List ℕ = λ l. text_of (names_of l) (counts_of l) in
    sym (append-nil c.loop-tally.out.items)
    ∙ ap (λ l. c.loop-tally.out.items ++ lines l) (sym (drop_all c.loop-tally.tally-index c.args.tallies.now c.loop-tally-test.false)) ∙ c.loop-tally.invariant
