use Rattle.snl_moments.proofs.LoadLaws.{rooms-more}
use Rattle.snl_moments.proofs.subject.spares_by.Goals as goal

pub loop-moment-preserved : goal.loop-moment-preserved
loop-moment-preserved c =
    rooms-more _ c.loop-moment.spares.items c.push.new.self.items c.in_ok-spare_of.field-0 c.in_ok-push.ensures.items c.loop-moment.invariant c.in_ok-spare_of.ensures
