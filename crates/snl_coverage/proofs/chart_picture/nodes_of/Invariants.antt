use Rattle.std.proofs.Common.{◌≡◌, ◌++◌, drop, map}
use Rattle.snl_coverage.specs.Pictures.{pictured_state}
use Rattle.snl_outline.specs.Shapes.{outlined_state}
use Rattle.snl_coverage.proofs.chart_picture.nodes_of.Given as goal

-- the nodes so far, and those that are left
abbrev pub invariant-loop-state : goal.invariant-loop-state
invariant-loop-state l =
    map pictured_state l.nodes.items ++ map outlined_state (drop l.state l.charts) ≡ map outlined_state l.charts
