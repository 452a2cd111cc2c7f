use Rattle.std.proofs.Common.{◌∙◌, ap, map}
use Rattle.snl_outline.specs.Shapes.{outlined_state}
use Rattle.snl_coverage.proofs.chart_picture.cluster_of.Goals as goal

pub returns : goal.returns
returns c =
    let name = c.in_ok-name.ensures.items ∙ c.as_slice.ensures.value in
    let states = c.in_ok-nodes.ensures ∙ ap (map outlined_state) c.as_slice-2.ensures.value in
    λ j. record { name = name j; states = states j }
