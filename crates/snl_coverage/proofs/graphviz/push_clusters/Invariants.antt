use Rattle.std.proofs.Common.{◌≡◌, ◌++◌, drop}
use Rattle.std.specs.List.{flat_map}
use Rattle.snl_coverage.specs.Pictures.{cluster_lines}
use Rattle.snl_coverage.proofs.graphviz.push_clusters.Given as goal

-- the text so far, and the state sets that are left
abbrev pub invariant-loop-cluster : goal.invariant-loop-cluster
invariant-loop-cluster l =
    l.out.items ++ flat_map cluster_lines (drop l.cluster-index l.clusters) ≡ l.initial.out.items ++ flat_map cluster_lines l.clusters
