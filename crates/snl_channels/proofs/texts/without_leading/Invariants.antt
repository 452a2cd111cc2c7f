use Rattle.std.proofs.Common.{◌≡◌, length}
use Rattle.snl_channels.specs.Texts.{without_leading}
use Rattle.snl_channels.proofs.texts.without_leading.Given as goal

abbrev pub invariant-loop-first : goal.invariant-loop-first
invariant-loop-first l = without_leading l.left ≡ without_leading l.fn.text

abbrev pub decreases-loop-first : goal.decreases-loop-first
decreases-loop-first l = length l.left
