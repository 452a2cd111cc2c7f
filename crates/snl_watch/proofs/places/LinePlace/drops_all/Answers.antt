use Rattle.std.proofs.lemmas.Bool.{not-true}
use Rattle.snl_watch.proofs.ExtraLaws.{dropped-outside}
use Rattle.snl_watch.proofs.places.LinePlace.drops_all.Goals as goal

pub returns-then-is_dropped_line : goal.returns-then-is_dropped_line
returns-then-is_dropped_line c =
    dropped-outside c.args.self.within c.args.self.extra c.args.bytes.now (not-true c.args.self.within c.if-not-self.true)
    (c.is_dropped_line.ensures.dropped c.if-is_dropped_line.true)
