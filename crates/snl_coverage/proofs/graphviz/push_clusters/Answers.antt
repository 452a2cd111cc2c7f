use Rattle.snl_coverage.specs.Pictures.{cluster_lines}
use Rattle.snl_coverage.proofs.Texts.{one-more}
use Rattle.snl_coverage.proofs.graphviz.push_clusters.Goals as goal

pub loop-cluster-preserved : goal.loop-cluster-preserved
loop-cluster-preserved c =
    one-more cluster_lines c.args.clusters.now c.loop-cluster.cluster-index c.cluster-item.result _ _ _ c.loop-cluster-test.true c.cluster-item.is c.loop-cluster.invariant
    c.in_ok-push_cluster.ensures
