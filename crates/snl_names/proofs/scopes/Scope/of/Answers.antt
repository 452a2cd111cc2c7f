use Rattle.snl_names.specs.Tables.{found_in}
use Rattle.snl_names.proofs.TableLaws.{table_step}
use Rattle.snl_names.proofs.scopes.Scope.of.Goals as goal

pub loop-name-preserved : goal.loop-name-preserved
loop-name-preserved c =
    table_step c.deref-name-items.result.now c.loop-name.name-index _ c.loop-name-test.true (found_in c.loop-name.firsts) (found_in c.note_first.new.firsts)
    c.loop-name.invariant c.in_ok-note_first.ensures.firsts
