use Rattle.std.proofs.Common.{◌≡◌, ◌++◌, drop}
use Rattle.std.specs.List.{flat_map}
use Rattle.snl_coverage.specs.Pictures.{arrows_from}
use Rattle.snl_coverage.proofs.graphviz.push_all_arrows.Given as goal

-- the text so far, and the states that are left
abbrev pub invariant-loop-node : goal.invariant-loop-node
invariant-loop-node l =
    l.out.items ++ flat_map (arrows_from l.set) (drop l.node-index l.nodes) ≡ l.initial.out.items ++ flat_map (arrows_from l.set) l.nodes
