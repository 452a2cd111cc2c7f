use Rattle.snl_names.specs.NumberTables.{number_in}
use Rattle.snl_reach.proofs.StateLaws.{state_step}
use Rattle.snl_reach.proofs.state_numbers.state_numbers.Goals as goal

pub loop-number-preserved : goal.loop-number-preserved
loop-number-preserved c =
    state_step c.args.states.now c.loop-number.number c.index-states-number.result c.loop-number-test.true c.index-states-number.is
    (number_in c.loop-number.numbers) (number_in c.note_number.new.numbers) c.loop-number.invariant c.in_ok-note_number.ensures
