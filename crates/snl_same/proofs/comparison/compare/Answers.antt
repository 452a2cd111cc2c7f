use Rattle.snl_same.specs.Sides.{pair_of, stand_of}
use Rattle.snl_same.proofs.OverLaws.{stands-first}
use Rattle.snl_same.proofs.comparison.compare.Goals as goal

pub returns-clause-found : goal.returns-clause-found
returns-clause-found g c = λ a b meant bs.
    let old = c.args.old.now.machine in
    let new = c.args.new.now.machine in
    let begun = stands-first c.args.filter a b old new (stand_of c.new-log.result c.args.old.now c.args.new.now) meant bs
    (λ j. record { filter = c.new-log.ensures.filter j; old = old; new = new; number = c.new-log.ensures.number j; first = c.new-log.ensures.first j }) in
    rw c.sum_up.ensures (c.in_ok-close.ensures.finds (pair_of c.args.filter a b old new) begun)
