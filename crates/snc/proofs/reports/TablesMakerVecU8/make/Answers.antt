use Rattle.snc.proofs.AnswerLaws.{asked_are}
use Rattle.snc.proofs.reports.TablesMakerVecU8.make.Goals as goal

-- the tables are asked for
pub returns-in_ok-text : goal.returns-in_ok-text
returns-in_ok-text c =
    asked_are c.args.job.now.tables c.args.checked.now.program c.program.result.now c.in_ok-text.text.items c.if-job.true c.program.ensures.tree c.in_ok-text.ensures
