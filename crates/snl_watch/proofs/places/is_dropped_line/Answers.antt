use Rattle.snl_watch.proofs.ExtraLaws.{dropped-line-of}
use Rattle.snl_watch.proofs.places.is_dropped_line.Goals as goal

pub returns-then-first-eq35-clause-dropped : goal.returns-then-first-eq35-clause-dropped
returns-then-first-eq35-clause-dropped c = λ yes. dropped-line-of c.args.text.now c.if-first-eq35.true (c.is_one_line.ensures yes)
