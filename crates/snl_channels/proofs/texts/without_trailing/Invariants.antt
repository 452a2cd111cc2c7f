use Rattle.std.proofs.Common.{◌≡◌, length}
use Rattle.snl_channels.specs.Texts.{without_trailing}
use Rattle.snl_channels.proofs.texts.without_trailing.Given as goal

abbrev pub invariant-loop-last : goal.invariant-loop-last
invariant-loop-last l = without_trailing l.left ≡ without_trailing l.fn.text

abbrev pub decreases-loop-last : goal.decreases-loop-last
decreases-loop-last l = length l.left
