use Rattle.snl_import.proofs.TakenLaws.{fresh-taken}
use Rattle.snl_import.proofs.WrittenLaws.{fresh-front, on-err}
use Rattle.snl_import.proofs.importing.write_front.Goals as goal

pub returns-in_err-channels-clause-front : goal.returns-in_err-channels-clause-front
returns-in_err-channels-clause-front g c = on-err c.from_residual.result _ (fresh-front _ c.requires.fresh)

pub returns-in_err-preface-clause-front : goal.returns-in_err-preface-clause-front
returns-in_err-preface-clause-front g c = on-err c.from_residual-in_err-preface.result _ (fresh-front _ c.requires.fresh)

pub returns-in_err-channels-clause-taken : goal.returns-in_err-channels-clause-taken
returns-in_err-channels-clause-taken g c taken = fresh-taken _ _ c.requires.fresh

pub returns-in_err-preface-clause-taken : goal.returns-in_err-preface-clause-taken
returns-in_err-preface-clause-taken g c taken = fresh-taken _ _ c.requires.fresh

pub returns-in_err-write_comments-clause-taken : goal.returns-in_err-write_comments-clause-taken
returns-in_err-write_comments-clause-taken g c = c.write_comments.ensures.taken
