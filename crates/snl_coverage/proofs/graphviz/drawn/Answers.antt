use Rattle.std.proofs.Common.{◌∙◌, ◌++◌, [], ap}
use Rattle.std.specs.Prelude.{codes}
use Rattle.std.specs.List.{flat_map}
use Rattle.snl_coverage.specs.Pictures.{cluster_lines, head}
use Rattle.snl_coverage.proofs.Texts.{two}
use Rattle.snl_coverage.proofs.graphviz.drawn.Goals as goal

pub returns : goal.returns
returns c =
    let name = c.args.picture.now.name.items in
    let clusters = c.args.picture.now.clusters.items in
    let begun = c.in_ok-push_head.ensures ∙ (λ j. c.new-out.ensures.items j ++ head (c.as_slice.ensures.value j)) in
    let sets = c.in_ok-push_clusters.ensures ∙ ap (λ cs. c.push_head.new.out.items ++ flat_map cluster_lines cs) c.as_slice-2.ensures.value in
    two [] _ _ (head name) _ begun (two _ _ _ (flat_map cluster_lines clusters) (codes "}\n") sets c.in_ok-extend_from_slice.ensures.items)
