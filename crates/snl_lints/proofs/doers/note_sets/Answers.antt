use Rattle.snl_names.specs.UseTables.{declared_at}
use Rattle.snl_lints.specs.Doers.{doers_in}
use Rattle.snl_lints.proofs.DoerLaws.{set_step, set_end}
use Rattle.snl_lints.proofs.doers.note_sets.Goals as goal

pub loop-number-preserved : goal.loop-number-preserved
loop-number-preserved c = λ v.
    set_step (declared_at c.args.uses.now) c.args.fact v c.args.sets.now c.loop-number.number c.index-sets-number.result
    (doers_in c.loop-number.table v) (doers_in c.note_set.new.table v) _
    c.loop-number-test.true c.index-sets-number.is (c.loop-number.invariant v) (c.in_ok-note_set.ensures v)

pub returns : goal.returns
returns c = λ v.
    set_end (declared_at c.args.uses.now) c.args.fact v c.args.sets.now c.loop-number.number (doers_in c.loop-number.table v) _
    c.loop-number-test.false (c.loop-number.invariant v)
