use Rattle.snc.proofs.AnswerLaws.{names_cut}
use Rattle.snc.proofs.messages.marked_names.Goals as goal

pub returns-in-Ok : goal.returns-in-Ok
returns-in-Ok c = names_cut c.args.text.now c.in-Ok.lexed c.in-Ok.ensures.cut c.in-Ok.ensures.whole
