use Rattle.std.proofs.Common.{◌≡◌, ◌∙◌, ap, map, sym, []}
use Rattle.snl_machine.specs.MachineOf.{task_of, world_held}
use Rattle.snl_trace.specs.Run.{rules_by}
use Rattle.snl_trace.specs.RunOver.{standing}
use Rattle.snl_trace.proofs.ByLineLaws.{all-over, fresh-over}
use Rattle.snl_watch.specs.Counts.{count_in}
use Rattle.snl_watch.specs.Seen.{seen}
use Rattle.snl_watch.specs.Sets.{names_in}
use Rattle.snl_coverage.specs.Shapes.{bytes_of, charted, go_texts}
use Rattle.snl_coverage.proofs.CoverRuns.{counts-of-text}
use Rattle.snc.proofs.RunLaws.{runs-like}
use Rattle.snl_coverage.proofs.runner.ran_over.Goals as goal

-- the machine was run over the trace into the sink behind the one that counts
pub returns-clause-ran : goal.returns-clause-ran
returns-clause-ran g c = λ p ls waits budget is.
    let rules = rules_by (task_of p ls waits) budget in
    let old = g.S.Sink.told c.new-watch.result.inner in
    let new = g.S.Sink.told c.run-end.new.sink.inner in
    let gave = g.R.Source.gave c.run-end.new.source in
    let ended = g.R.Source.ended c.run-end.new.source in
    let last = world_held c.run-end.new.machine in
    let from = standing [] 1 c.args.machine.now old in
    runs-like p ls waits budget (world_held c.args.machine.now) last gave ended old (g.S.Sink.told c.args.sink) new (g.S.Sink.told c.into_parts-counter.result.1) c.run-end.result
    (ap g.S.Sink.told c.new-watch.ensures.inner) (ap g.S.Sink.told (sym c.into_parts-counter.ensures.inner))
    (all-over rules c.run-end.result gave ended from last new
    (fresh-over rules c.run-end.result (g.R.Source.gave c.args.trace.now) gave ended from last new c.requires.fresh (c.run-end.ensures.means p ls waits budget is)))

-- the counts are those of the lines that the sink behind was told
pub returns-clause-counts : goal.returns-clause-counts
returns-clause-counts g c = λ text is_told.
    let counter = c.into_parts-counter.result.0 in
    let keys = names_in counter.keys in
    let texts = go_texts (charted c.args.coverage.now.chart) in
    let same : bytes_of c.as_slice-2.result.now ≡ texts = ap bytes_of c.as_slice-2.ensures.value ∙ c.in_ok-counting.ensures.texts in
    let counted = ap (map (count_in keys counter.room (seen counter).2)) (sym same) ∙ c.in_ok-shown.ensures in
    let told = sym (ap g.S.Sink.told c.into_parts-counter.ensures.inner) ∙ is_told in
    counts-of-text keys counter.room (seen counter) text texts c.in_ok-shown.shown.items (c.into_parts-counter.ensures.counts text told) counted
