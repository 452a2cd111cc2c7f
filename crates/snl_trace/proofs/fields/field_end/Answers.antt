use Rattle.snl_trace.proofs.FieldLaws.{cut-at, cut-end}
use Rattle.snl_trace.proofs.fields.field_end.Goals as goal

pub returns-in-Some-clause-cut : goal.returns-in-Some-clause-cut
returns-in-Some-clause-cut c = (cut-at c.args.text.now c.in-Some.end c.requires.begins c.requires.filled c.in-Some.ensures).0

pub returns-in-Some-clause-more : goal.returns-in-Some-clause-more
returns-in-Some-clause-more c = (cut-at c.args.text.now c.in-Some.end c.requires.begins c.requires.filled c.in-Some.ensures).1

pub returns-in-None-clause-cut : goal.returns-in-None-clause-cut
returns-in-None-clause-cut c = cut-end c.args.text.now c.requires.begins c.requires.filled c.in-None.ensures
