use Rattle.std.proofs.Common.{rules}
use Rattle.snl_text.specs.WordsByLength.{word_by_length}
use Rattle.snl_text.proofs.Reserved.{by_length}
use Rattle.snl_text.proofs.words.word_kind.Goals as goal

pub returns-in-2 : goal.returns-in-2
unfolding word_by_length
returns-in-2 c = rw (← by_length c.args.word.now) (search rules)

pub returns-in-3 : goal.returns-in-3
unfolding word_by_length
returns-in-3 c = rw (← by_length c.args.word.now) (search rules)

pub returns-in-4 : goal.returns-in-4
unfolding word_by_length
returns-in-4 c = rw (← by_length c.args.word.now) (search rules)

pub returns-in-5 : goal.returns-in-5
unfolding word_by_length
returns-in-5 c = rw (← by_length c.args.word.now) (search rules)

pub returns-in-6 : goal.returns-in-6
unfolding word_by_length
returns-in-6 c = rw (← by_length c.args.word.now) (search rules)

pub returns-in-7 : goal.returns-in-7
unfolding word_by_length
returns-in-7 c = rw (← by_length c.args.word.now) (search rules)

pub returns-in-8 : goal.returns-in-8
unfolding word_by_length
returns-in-8 c = rw (← by_length c.args.word.now) (search rules)

pub returns-in_default : goal.returns-in_default
unfolding word_by_length
returns-in_default c = rw (← by_length c.args.word.now) (search rules)
