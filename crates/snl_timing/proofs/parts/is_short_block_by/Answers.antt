use Rattle.std.proofs.Common.{Option, ℕ, subst, sym}
use Rattle.snl_alike.proofs.Delays.{any-blocks}
use Rattle.snl_alike.specs.Delays.{DelaysInBlockMaybe, IsShort}
use Rattle.snl_syntax.specs.view.Shown.{shown, held}
use Rattle.snl_syntax.specs.view.Statements.{block_view}
use Rattle.snl_timing.proofs.parts.is_short_block_by.Goals as goal

pub returns-in-Some : goal.returns-in-Some
returns-in-Some c = λ yes.
    subst (λ (o : Option ℕ). DelaysInBlockMaybe (IsShort o) (shown (held block_view) c.args.block.now)) (sym c.in-Some.is) (c.are_short_maybe_block.ensures yes)

pub returns-in-None : goal.returns-in-None
returns-in-None c = λ yes.
    subst (λ (o : Option ℕ). DelaysInBlockMaybe (IsShort o) (shown (held block_view) c.args.block.now)) (sym c.in-None.is) (any-blocks (shown (held block_view) c.args.block.now))
