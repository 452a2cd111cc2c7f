use Rattle.snl_moments.proofs.PlanLaws.{tells-next}
use Rattle.snl_moments.proofs.WalkLaws.{goes-on}
use Rattle.snl_moments.proofs.times.tell_time.Goals as goal

pub returns-clause-tells : goal.returns-clause-tells
returns-clause-tells c = λ at_end r first gave rest at when pictures.
    goes-on at_end r first gave rest c.tell.new.walk c.go_on.new.walk c.go_on.ensures.told c.go_on.ensures.sort c.go_on.ensures.times c.go_on.ensures.early
    (c.in_ok-tell.ensures.tells at_end r first gave rest at when pictures)

pub returns-clause-asked : goal.returns-clause-asked
returns-clause-asked c =
    tells-next c.args.ms c.args.walk.now c.tell.new.walk c.go_on.new.walk c.in_ok-tell.ensures.asked c.go_on.ensures.sort c.go_on.ensures.times c.go_on.ensures.told.moments c.go_on.ensures.next
