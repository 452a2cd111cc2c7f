use Rattle.std.proofs.Common.{nat_eq}
use Rattle.std.specs.HashMap.{get}
use Rattle.snl_lints.proofs.FactLaws.{held_first, held_step, held_end}
use Rattle.snl_lints.proofs.holdings.note_held_by.Goals as goal

pub loop-touch-init : goal.loop-touch-init
loop-touch-init c = λ v. held_first c.args.touches.now v (get nat_eq c.args.table.now v) (c.requires v)

pub loop-touch-preserved : goal.loop-touch-preserved
loop-touch-preserved c = λ v.
    held_step c.args.touches.now c.loop-touch.touch-index v _ (get nat_eq c.loop-touch.table v) (get nat_eq c.note_held.new.table v) _
    c.loop-touch-test.true (c.in_ok-note_held.ensures v) (c.loop-touch.invariant v)

pub returns : goal.returns
returns c = λ v.
    held_end c.args.touches.now c.loop-touch.touch-index v (get nat_eq c.loop-touch.table v) _
    c.loop-touch-test.false (c.loop-touch.invariant v)
