use Rattle.std.proofs.Common.{◌∙◌, sym}
use Rattle.snl_watch.specs.Places.{place_of}
use Rattle.snl_watch.proofs.ExtraLaws.{place-ended}
use Rattle.snl_watch.proofs.places.LinePlace.after.Goals as goal

pub returns-then-ends_line : goal.returns-then-ends_line
returns-then-ends_line c = c.start.ensures ∙ sym (place-ended (place_of c.args.self) c.args.bytes.now (sym c.ends_line.ensures ∙ c.if-ends_line.true))
