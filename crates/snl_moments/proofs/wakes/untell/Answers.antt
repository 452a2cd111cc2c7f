use Rattle.std.proofs.Common.{◌∙◌, append-nil, refl, sym}
use Rattle.snl_moments.proofs.WalkLaws.{leaves-keeps, untold}
use Rattle.snl_moments.proofs.wakes.untell.Goals as goal

pub returns-in-None-clause-keeps : goal.returns-in-None-clause-keeps
returns-in-None-clause-keeps c =
    leaves-keeps c.args.walk.now _
    (record {
      told = record { machine = refl; spares = refl; moments = sym ((rw c.in-None.is at c.pop.ensures.items) ∙ append-nil c.pop.new.self.items) };
      asked = record { sort = refl; times = refl; next = refl };
    })

pub returns-in_ok-push-in-Some-clause-keeps : goal.returns-in_ok-push-in-Some-clause-keeps
returns-in_ok-push-in-Some-clause-keeps c = λ at_end r first gave rest at.
    untold at_end r first gave rest c.args.walk.now _ c.in-Some.moment refl (record { sort = refl; times = refl; next = refl }) (rw c.in-Some.is at c.pop.ensures.items)
    c.in_ok-push-in-Some.ensures.items at
