use Rattle.snl_same.proofs.LineLaws.{if-ok}
use Rattle.snl_same.proofs.line_step.do_on_both.Goals as goal

pub returns-in-Some-clause-old : goal.returns-in-Some-clause-old
returns-in-Some-clause-old c =
    if-ok c.do_known_on_both.result _ _ (λ _ did r meant. did r c.args.number c.args.line.now (rw c.in-Some.is at c.requires.old) meant) c.do_known_on_both.ensures.old

pub returns-in-Some-clause-new : goal.returns-in-Some-clause-new
returns-in-Some-clause-new c =
    if-ok c.do_known_on_both.result _ _ (λ _ did r meant. did r c.args.number c.args.line.now (rw c.in-Some.is at c.requires.new) meant) c.do_known_on_both.ensures.new
