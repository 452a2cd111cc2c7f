use Rattle.std.proofs.Common.{ℕ, drop}
use Rattle.snl_alike.specs.Delays.{DelaysInBlockMaybe, IsShort, longest_in}
use Rattle.snl_syntax.specs.view.Shown.{shown, held}
use Rattle.snl_syntax.specs.view.Statements.{block_view}
use Rattle.snl_timing.proofs.parts.is_short_block_in.Given as goal

-- If the block is short by the longest delays that are left, it is by all of them.
abbrev pub invariant-loop-longest : goal.invariant-loop-longest
invariant-loop-longest l =
    ((state : ℕ) → DelaysInBlockMaybe (IsShort (longest_in (drop l.longest-index l.longests) state)) (shown (held block_view) l.block)) →
    (state : ℕ) → DelaysInBlockMaybe (IsShort (longest_in l.longests state)) (shown (held block_view) l.block)
