use Rattle.std.proofs.Common.{Ok}
use Rattle.snl_watch.specs.Extra.{shown}
use Rattle.snl_watch.specs.Places.{place_of}
use Rattle.snl_watch.proofs.ExtraLaws.{taken-pass}
use Rattle.snl_watch.proofs.teller.Teller.pass.Goals as goal

pub returns-clause-taken : goal.returns-clause-taken
returns-clause-taken g c =
    taken-pass (place_of c.args.self.now.place) (shown (g.K.Sink.told c.args.self.now.inner)) (shown (g.K.Sink.told c.hand_on.new.self.inner)) c.args.piece.now c.kept_front-front.result
    (Ok c.in_ok-taken.taken) c.kept_front-front.ensures.within c.kept_front-front.ensures.kept c.in_ok-taken.ensures.count c.in_ok-taken.ensures.taken
