use Rattle.snl_names.specs.NumberTables.{number_in}
use Rattle.snl_names.proofs.NumberLaws.{number_step}
use Rattle.snl_names.proofs.numbered.Numbered.of.Goals as goal

pub loop-number-preserved : goal.loop-number-preserved
loop-number-preserved c =
    number_step c.deref-name-items.result.now c.loop-number.number _ c.loop-number-test.true (number_in c.loop-number.numbers) (number_in c.note_number.new.numbers)
    c.loop-number.invariant c.in_ok-note_number.ensures
