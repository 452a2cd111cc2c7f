use Rattle.std.proofs.Common.{◌≡◌, ◌++◌, drop}
use Rattle.snl_coverage.specs.Pictures.{node_lines}
use Rattle.snl_coverage.proofs.graphviz.push_nodes.Given as goal

-- the text so far, and the states that are left
abbrev pub invariant-loop-index : goal.invariant-loop-index
invariant-loop-index l =
    l.out.items ++ node_lines l.set l.index (drop l.index l.nodes) ≡ l.initial.out.items ++ node_lines l.set 0 l.nodes
