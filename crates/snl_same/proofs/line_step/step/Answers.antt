use Rattle.snl_same.proofs.LineLaws.{if-ok}
use Rattle.snl_same.proofs.StandLaws.{steps-by}
use Rattle.snl_same.specs.Sides.{stand_of}
use Rattle.snl_same.proofs.line_step.step.Goals as goal

pub returns-clause-steps : goal.returns-clause-steps
returns-clause-steps c =
    if-ok c.note_line.result _ _ (λ close noted. rw noted.close_is
    (steps-by c.args.line.now _ _ (stand_of c.args.log.now c.args.old.now c.args.new.now) _ noted.apart noted.filter noted.number noted.first
    c.in_ok-do_on_both.ensures.old_means c.in_ok-do_on_both.ensures.new_means _ _ c.in_ok-do_on_both.ensures.old c.in_ok-do_on_both.ensures.new noted.apart_is)) c.note_line.ensures.notes
