use Rattle.std.proofs.Common.{false, refl}
use Rattle.std.proofs.lemmas.Result.{IfOk-weaker}
use Rattle.snl_moments.proofs.PlanLaws.{into-not, other-stays, same-then, stays-asked, stays-same}
use Rattle.snl_moments.proofs.WalkLaws.{tells-into}
use Rattle.snl_moments.proofs.wakes.note_into.Goals as goal

pub returns-then-not-is_sought-clause-keeps : goal.returns-then-not-is_sought-clause-keeps
returns-then-not-is_sought-clause-keeps c = λ at_end r first gave rest at. at

pub returns-then-not-is_sought-clause-asked : goal.returns-then-not-is_sought-clause-asked
returns-then-not-is_sought-clause-asked c = stays-asked c.args.walk.now c.args.walk.now (stays-same c.args.walk.now) refl

pub returns-clause-keeps : goal.returns-clause-keeps
returns-clause-keeps c =
    let s = c.args.walk.now in
    let t = record s { ear = record s.ear { is_hit = false } } in
    IfOk-weaker c.tell.result _ _
    (λ _ h. tells-into c.args.from.now s t c.untell.new.walk c.tell.new.walk
    (record { told = record { machine = refl; spares = refl; moments = refl }; asked = record { sort = refl; times = refl; next = refl } })
    c.in_ok-untell.ensures.keeps c.untell.ensures.machine
    c.requires h)
    c.tell.ensures.tells

pub returns-clause-asked : goal.returns-clause-asked
returns-clause-asked c =
    let s = c.args.walk.now in
    let t = record s { ear = record s.ear { is_hit = false } } in
    IfOk-weaker c.tell.result _ _
    (λ _ h. other-stays s c.tell.new.walk
    (same-then s t c.tell.new.walk (record { sort = refl; times = refl; next = refl }) (same-then t c.untell.new.walk c.tell.new.walk c.untell.ensures.asked h.same))
    (into-not s.sort (c.is_sought.ensures c.if-not-is_sought.false)))
    c.tell.ensures.asked
