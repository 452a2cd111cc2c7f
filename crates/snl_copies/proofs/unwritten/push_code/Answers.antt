use Rattle.std.proofs.Common.{refl}
use Rattle.snl_copies.specs.Tests.{unwritten_at, unwritten_in}
use Rattle.snl_copies.proofs.Rows.{row_at, row_ends}
use Rattle.snl_copies.proofs.unwritten.push_code.Goals as goal

pub loop-touch-init : goal.loop-touch-init
loop-touch-init c = refl

pub loop-touch-preserved : goal.loop-touch-preserved
loop-touch-preserved c =
    row_at (unwritten_at c.args.way.now.uses.now c.args.way.now.copy.now) (unwritten_in c.args.way.now.uses.now c.args.way.now.copy.now) (λ x xs. refl)
    c.args.code.now c.loop-touch.touch-index _ c.loop-touch.found.items c.push_touch.new.found.items _
    c.loop-touch-test.true c.loop-touch.invariant c.in_ok-push_touch.ensures

pub returns : goal.returns
returns c =
    row_ends (unwritten_in c.args.way.now.uses.now c.args.way.now.copy.now) refl
    c.args.code.now c.loop-touch.touch-index _ _ c.loop-touch-test.false c.loop-touch.invariant
