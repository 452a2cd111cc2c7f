use Rattle.snl_names.specs.UseTables.{declared_at}
use Rattle.snl_lints.specs.Doers.{doers_in}
use Rattle.snl_lints.proofs.DoerLaws.{touch_step, touch_end}
use Rattle.snl_lints.proofs.doers.note_doers.Goals as goal

pub loop-touch-preserved : goal.loop-touch-preserved
loop-touch-preserved c = λ v.
    touch_step (declared_at c.args.uses.now) c.args.fact v c.args.set c.args.touches.now c.loop-touch.touch-index _
    (doers_in c.loop-touch.table v) (doers_in c.note_doer.new.table v) _
    c.loop-touch-test.true (c.loop-touch.invariant v) (c.in_ok-note_doer.ensures v)

pub returns : goal.returns
returns c = λ v.
    touch_end (declared_at c.args.uses.now) c.args.fact v c.args.set c.args.touches.now c.loop-touch.touch-index (doers_in c.loop-touch.table v) _
    c.loop-touch-test.false (c.loop-touch.invariant v)
