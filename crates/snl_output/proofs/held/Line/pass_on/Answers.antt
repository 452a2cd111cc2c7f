use Rattle.snl_output.proofs.Adding.{cut-more, failed-adds, passed-on}
use Rattle.snl_output.proofs.held.Line.pass_on.Goals as goal

pub returns-in_err-send-clause-told : goal.returns-in_err-send-clause-told
returns-in_err-send-clause-told g c = failed-adds _ _ _ _ _ c.from_residual.ensures.0 (cut-more _ _ _ _ c.in_err-send.ensures.told)

pub returns-clause-told : goal.returns-clause-told
returns-clause-told g c = rw c.clear.ensures (passed-on c.write_whole.result _ _ _ _ _ c.in_ok-send.ensures.told c.write_whole.ensures.told)
