use Rattle.std.proofs.Common.{◌∙◌, ◌++◌, ap}
use Rattle.std.specs.Prelude.{codes}
use Rattle.std.specs.List.{flat_map}
use Rattle.snl_coverage.specs.Pictures.{arrows_from, cluster_head, node_lines}
use Rattle.snl_coverage.proofs.Texts.{two}
use Rattle.snl_coverage.proofs.graphviz.push_cluster.Goals as goal

pub returns : goal.returns
returns c =
    let set = c.args.cluster.now.name.items in
    let nodes = c.args.cluster.now.nodes.items in
    let start = c.args.out.now.items in
    let named = c.as_slice-set.ensures.value in
    let all = c.as_slice-nodes.ensures.value in
    let head = c.in_ok-push_cluster_head.ensures ∙ ap (λ s. start ++ cluster_head s) named in
    let states = c.in_ok-push_nodes.ensures ∙ (λ j. c.push_cluster_head.new.out.items ++ node_lines (named j) 0 (all j)) in
    let arrows = c.in_ok-push_all_arrows.ensures ∙ (λ j. c.push_nodes.new.out.items ++ flat_map (arrows_from (named j)) (all j)) in
    let back = two _ _ _ (flat_map (arrows_from set) nodes) (codes "  }\n") arrows c.in_ok-extend_from_slice.ensures.items in
    two start _ _ (cluster_head set) _ head (two _ _ _ (node_lines set 0 nodes) _ states back)
