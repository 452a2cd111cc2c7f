use Rattle.std.proofs.Common.{◌∙◌, ap, map}
use Rattle.snl_outline.specs.Shapes.{outlined_set}
use Rattle.snl_coverage.proofs.chart_picture.picture_of.Goals as goal

pub returns : goal.returns
returns c =
    let name = c.in_ok-name.ensures.items ∙ c.as_slice.ensures.value in
    let sets = c.in_ok-clusters.ensures ∙ ap (map outlined_set) c.as_slice-2.ensures.value in
    λ j. record { name = name j; sets = sets j }
