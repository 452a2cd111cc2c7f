use Rattle.snl_schedule.specs.declared.events.Event.TheVariants as event
use Rattle.snl_same.proofs.LineLaws.{if-ok}
use Rattle.snl_same.proofs.MeaningLaws.{known-did}
use Rattle.snl_same.specs.Hearing.{with_number}
use Rattle.snl_same.proofs.sides.do_known.Goals as goal

pub returns-in-None-clause-did : goal.returns-in-None-clause-did
returns-in-None-clause-did c =
    if-ok c.do_event.result _ _ (λ _ did r number line tells meant.
    known-did r c.args.side.now.machine number c.args.ms event.Tick line _ _ _ meant (rw c.in-None.is at tells) (rw c.ready.ensures at (did r meant))) c.do_event.ensures.did

pub returns-in-Some-clause-did : goal.returns-in-Some-clause-did
returns-in-Some-clause-did c =
    let numbered = with_number c.in-Some.number c.args.events.now.values in
    if-ok c.do_event-in-Some.result _ _ (λ _ did r number line tells meant.
    known-did r c.args.side.now.machine number c.args.ms numbered line _ _ _ meant (rw c.in-Some.is at tells)
    (rw c.set_number.ensures at (did r meant))) c.do_event-in-Some.ensures.did
