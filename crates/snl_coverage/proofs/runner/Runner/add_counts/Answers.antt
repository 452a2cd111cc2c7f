use Rattle.std.proofs.Common.{◌∙◌, refl, subst, sym}
use Rattle.std.proofs.lemmas.Result.{on_ok_weaker}
use Rattle.snl_coverage.specs.Coverage.{AreCounts}
use Rattle.snl_outline.specs.Shapes.{Shape}
use Rattle.snl_coverage.specs.Shapes.{charted, go_texts}
use Rattle.snl_coverage.proofs.RunnerLaws.{with-more}
use Rattle.snl_coverage.proofs.Sums.{count-each}
use Rattle.snl_coverage.proofs.runner.Runner.add_counts.Goals as goal

-- with the counts of other runs, it is who runs the program still
pub returns-clause-ran : goal.returns-clause-ran
returns-clause-ran c =
    on_ok_weaker c.add_counts.result
    (λ added macros budget lines more whole options others ns is e counted.
    let r = c.args.self.now in
    let texts = go_texts (charted r.coverage.chart) in
    let own = subst (λ (s : Shape). AreCounts (go_texts s) r.coverage.shown.items lines) (sym is.shape) is.counts in
    let each = count-each texts ns more counted ∙ sym (count-each texts r.coverage.shown.items lines own) in
    with-more macros budget lines whole options r is _ ns more refl is.machine refl c.add_counts.ensures.chart (added others ns e each) counted)
    c.add_counts.ensures.shown
