use Rattle.std.proofs.Common.{◌≡◌, ◌++◌, drop}
use Rattle.snl_coverage.specs.Pictures.{pictured_arrows}
use Rattle.snl_outline.specs.Shapes.{targets_in}
use Rattle.snl_coverage.proofs.chart_picture.arrows_of.Given as goal

-- the arrows so far, and those that are left
abbrev pub invariant-loop-clause : goal.invariant-loop-clause
invariant-loop-clause l =
    pictured_arrows l.arrows.items ++ targets_in (drop l.clause l.charts) ≡ targets_in l.charts
