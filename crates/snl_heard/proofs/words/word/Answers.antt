use Rattle.snl_heard.proofs.WordLaws.{word-cut, word-uncut}
use Rattle.snl_heard.proofs.words.word.Goals as goal

pub returns-in-Some : goal.returns-in-Some
returns-in-Some c = word-cut c.args.text.now _ _ c.in-Some.ensures.cut c.in-Some.ensures.first

pub returns-in-None : goal.returns-in-None
returns-in-None c = word-uncut c.args.text.now c.in-None.ensures.none
