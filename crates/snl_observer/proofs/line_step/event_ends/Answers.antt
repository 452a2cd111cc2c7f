use Rattle.std.proofs.Common.{Ok, Err, Some, refl}
use Rattle.snl_observer.specs.declared.closes.Ending.TheVariants.{Faulted}
use Rattle.snl_output.specs.declared.faults.Stop.TheVariants as stop
use Rattle.snl_observer.proofs.DoneLaws.{event-did, works-well}
use Rattle.snl_observer.proofs.line_step.event_ends.Goals as goal

pub returns-in-Err-Fault-clause-did : goal.returns-in-Err-Fault-clause-did
returns-in-Err-Fault-clause-did c = λ r meant.
    let fault = c.in-Err-Fault.fault in
    let line = c.in-Err-Fault.line in
    event-did r c.args.machine.now c.args.ms c.args.event.now (Err (stop.Fault fault line)) _ _ _ (Some (Faulted fault line)) meant c.requires.empty (λ number. refl) refl
    (λ p ls waits budget made. rw c.in-Err-Fault.field-0-is at (c.in-Err-Fault.ensures.means p ls waits budget made))

pub returns-in-Ok-clause-did : goal.returns-in-Ok-clause-did
returns-in-Ok-clause-did c = λ r meant.
    event-did r c.args.machine.now c.args.ms c.args.event.now (Ok c.in-Ok.live) _ _ _ c.end_by.result meant c.requires.empty (λ number. c.end_by.ensures number)
    (works-well c.in-Ok.live) (λ p ls waits budget made. c.in-Ok.ensures.means p ls waits budget made)
