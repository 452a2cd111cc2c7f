use Rattle.std.proofs.Common.{◌≡◌, ◌-◌, ◌∙◌, ap, arith, drop, length}
use Rattle.snl_coverage.specs.Coverage.{both}
use Rattle.snl_coverage.proofs.Sums.{last-counts}
use Rattle.snl_coverage.proofs.coverage.Coverage.add_counts.Goals as goal

pub returns-clause-shown : goal.returns-clause-shown
returns-clause-shown c others lines e each =
    let counts = c.args.counts.now in
    let shown = c.args.self.now.shown in
    let place : c.saturating_sub-place.result ≡ length counts - length shown.items = omega (arith, c.saturating_sub-place.ensures, c.len.ensures, shown.ok.0) in
    c.add_counts.ensures
    ∙ ap (both shown.items) (c.split_at.ensures.back ∙ ap (λ n. drop n counts) place ∙ last-counts counts others lines (length shown.items) e each)
