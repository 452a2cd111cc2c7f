use Rattle.std.proofs.Common.{refl}
use Rattle.std.proofs.lemmas.List.Elements.{All-pop}
use Rattle.snl_machine.specs.MachineOf.{world_held}
use Rattle.snl_moments.proofs.PlanLaws.{tells-kind}
use Rattle.snl_moments.proofs.TellLaws.{tells-more}
use Rattle.snl_moments.specs.Walks.{HasRoom}
use Rattle.snl_moments.proofs.moment_store.tell.Goals as goal

pub returns-clause-tells : goal.returns-clause-tells
returns-clause-tells c = λ at_end r first gave rest at when pictures.
    let s = c.args.walk.now in
    let w = world_held s.machine in
    let popped = All-pop (HasRoom w) s.spares.items c.pop.new.self.items c.pop.result c.pop.ensures.items at.spares in
    let room : HasRoom w c.in-Some.store = rw c.in-Some.is at popped.1 in
    tells-more at_end r first gave rest s _ (record { kind = c.args.kind; store = c.take_picture.new.store; heard = c.in_ok-heard.heard }) at refl
    (record { sort = refl; times = refl; next = refl }) popped.0
    c.in_ok-push.ensures.items when (c.take_picture.ensures w pictures room)

pub returns-clause-asked : goal.returns-clause-asked
returns-clause-asked c =
    tells-kind c.args.walk.now _ (record { kind = c.args.kind; store = c.take_picture.new.store; heard = c.in_ok-heard.heard }) (record { sort = refl; times = refl; next = refl })
    c.in_ok-push.ensures.items
