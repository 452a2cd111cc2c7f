use Rattle.std.proofs.Common.{Ok, Err, refl}
use Rattle.snl_output.specs.declared.faults.Stop.TheVariants as stop
use Rattle.snl_same.proofs.MeaningLaws.{event-did, means-stays, works-well}
use Rattle.snl_same.proofs.sides.do_event.Goals as goal

pub returns-in-Err-Fault-clause-did : goal.returns-in-Err-Fault-clause-did
returns-in-Err-Fault-clause-did c = λ r meant.
    event-did r c.args.side.now.machine c.args.ms c.args.event.now (Err (stop.Fault c.in-Err-Fault.fault c.in-Err-Fault.line)) _ _ _ meant c.requires.empty refl
    (λ p ls waits budget made. rw c.in-Err-Fault.field-0-is at (c.in-Err-Fault.ensures.means p ls waits budget made))

pub returns-in-Err-Fault-clause-means : goal.returns-in-Err-Fault-clause-means
returns-in-Err-Fault-clause-means c = λ r meant. means-stays r _ _ c.event_told.ensures.stays meant

pub returns-in-Ok-clause-did : goal.returns-in-Ok-clause-did
returns-in-Ok-clause-did c = λ r meant.
    rw c.end_by-side.ensures
    (event-did r c.args.side.now.machine c.args.ms c.args.event.now (Ok c.in-Ok.live) _ _ _ meant c.requires.empty (works-well c.in-Ok.live)
    (λ p ls waits budget made. c.in-Ok.ensures.means p ls waits budget made))

pub returns-in-Ok-clause-means : goal.returns-in-Ok-clause-means
returns-in-Ok-clause-means c = λ r meant. means-stays r _ _ c.event_told.ensures.stays meant
