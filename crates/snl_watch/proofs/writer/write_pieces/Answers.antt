use Rattle.snl_output.proofs.Adding.{held-sent}
use Rattle.snl_watch.proofs.writer.write_pieces.Goals as goal

pub returns-clause-told : goal.returns-clause-told
returns-clause-told g c = held-sent c.send.result _ _ _ _ _ (rw c.new-line.ensures at c.in_ok-add_all.ensures.told) c.send.ensures.told
