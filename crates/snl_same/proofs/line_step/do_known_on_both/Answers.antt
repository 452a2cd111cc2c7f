use Rattle.snl_same.proofs.HearingLaws.{tells-known}
use Rattle.snl_same.proofs.LineLaws.{if-ok}
use Rattle.snl_same.proofs.line_step.do_known_on_both.Goals as goal

pub returns-clause-old : goal.returns-clause-old
returns-clause-old c =
    if-ok c.do_known-2.result _ _ (λ _ _ r number line tells meant. (rw c.old_number.ensures at c.in_ok-do_known.ensures.did) r number line tells meant) c.do_known-2.ensures.did

pub returns-clause-new : goal.returns-clause-new
returns-clause-new c =
    if-ok c.do_known-2.result _ _ (λ _ did r number line tells meant. (rw c.new_number.ensures at did) r number line
    (tells-known c.args.events.now.values _ c.args.known.ms c.args.known.channel c.args.new.now.machine line (rw c.old_number.ensures at c.in_ok-do_known.ensures.room) tells) meant)
    c.do_known-2.ensures.did
