use Rattle.snl_watch.proofs.ExtraLaws.{kept-line-of}
use Rattle.snl_watch.proofs.places.is_kept_line.Goals as goal

pub returns-then-first-ne35 : goal.returns-then-first-ne35
returns-then-first-ne35 c = λ yes. kept-line-of c.args.text.now c.if-first-ne35.true (c.is_one_line.ensures yes)
