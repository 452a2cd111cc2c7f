use Rattle.std.proofs.Common.{◌∙◌, ap}
use Rattle.snl_outline.specs.Shapes.{targets_in}
use Rattle.snl_coverage.proofs.chart_picture.node_of.Goals as goal

pub returns : goal.returns
returns c =
    let name = c.in_ok-name.ensures.items ∙ c.as_slice.ensures.value in
    let arrows = c.in_ok-arrows.ensures ∙ ap targets_in c.as_slice-2.ensures.value in
    λ j. record { name = name j; targets = arrows j }
