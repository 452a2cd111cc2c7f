use Rattle.std.proofs.Common.{◌≡◌, ◌∙◌, ap, map, sym}
use Rattle.snl_watch.specs.Counts.{count_in}
use Rattle.snl_watch.specs.Seen.{seen}
use Rattle.snl_watch.specs.Sets.{names_in}
use Rattle.snl_coverage.specs.Shapes.{bytes_of, charted, go_texts}
use Rattle.snl_coverage.proofs.CoverRuns.{counts-of-nothing}
use Rattle.snl_coverage.proofs.seen.unseen.Goals as goal

-- the counts are those of no lines
pub returns : goal.returns
returns c =
    let counter = c.in_ok-texts.field-0.counter in
    let keys = names_in counter.keys in
    let texts = go_texts (charted c.args.chart.now) in
    let same : bytes_of c.as_slice.result.now ≡ texts = ap bytes_of c.as_slice.ensures.value ∙ c.in_ok-texts.ensures.texts in
    let counted = ap (map (count_in keys counter.room (seen counter).2)) (sym same) ∙ c.in_ok-shown.ensures in
    counts-of-nothing keys counter.room (seen counter) texts c.in_ok-shown.shown.items c.in_ok-texts.ensures.fresh counted
