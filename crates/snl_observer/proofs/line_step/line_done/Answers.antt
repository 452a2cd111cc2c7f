use Rattle.std.proofs.Common.{◌∙◌, ℕ, List, Option, Result, Some, None, Ok, Err, ap, sym, subst}
use Rattle.snl_machine.specs.MachineOf.{world_held}
use Rattle.snl_observer.proofs.DoneLaws.{bad-did, event-line-did, heard-event, heard-read, quiet-did}
use Rattle.snl_observer.proofs.MeansLaws.{read-means}
use Rattle.snl_observer.specs.Doing.{LineDid}
use Rattle.snl_observer.specs.declared.closes.Ending.TheVariants.{Refused}
use Rattle.snl_trace.specs.Seen.{event_heard, event_seen, seen}
use Rattle.snl_trace.specs.declared.reader.Heard.{Heard}
use Rattle.snl_trace.specs.declared.trace_faults.TraceFault.{TraceFault}
use Rattle.snl_observer.proofs.line_step.line_done.Goals as goal

pub returns-in-Err-clause-did : goal.returns-in-Err-clause-did
returns-in-Err-clause-did c = λ r meant.
    let m = c.args.program.now.machine in
    let w = world_held m in
    let view = λ (read : Result (Option (ℕ × Heard)) TraceFault). seen (event_seen c.read_event.new.room) read in
    subst (λ (t : List ℕ). LineDid r c.args.line.now w (Some (Refused c.in-Err.fault)) w t) (sym c.clear.ensures.text)
    (bad-did r c.args.line.now w c.in-Err.fault
    (read-means m r c.time-time.result c.args.line.now (view c.read_event.result) meant c.read_event.ensures c.time-time.ensures ∙ ap view c.in-Err.is))

pub returns-in-Err-clause-heard : goal.returns-in-Err-clause-heard
returns-in-Err-clause-heard c = λ r meant sets.
    let m = c.args.program.now.machine in
    let view = λ (read : Result (Option (ℕ × Heard)) TraceFault). seen (event_seen c.read_event.new.room) read in
    heard-read sets r c.args.line.now (world_held m) (Err c.in-Err.fault)
    (read-means m r c.time-time.result c.args.line.now (view c.read_event.result) meant c.read_event.ensures c.time-time.ensures ∙ ap view c.in-Err.is)

pub returns-in-Ok-None-clause-did : goal.returns-in-Ok-None-clause-did
returns-in-Ok-None-clause-did c = λ r meant.
    let m = c.args.program.now.machine in
    let w = world_held m in
    let view = λ (read : Result (Option (ℕ × Heard)) TraceFault). seen (event_seen c.read_event.new.room) read in
    subst (λ (t : List ℕ). LineDid r c.args.line.now w None w t) (sym c.clear.ensures.text)
    (quiet-did r c.args.line.now w
    (read-means m r c.time-time.result c.args.line.now (view c.read_event.result) meant c.read_event.ensures c.time-time.ensures
    ∙ ap view (c.in-Ok-None.is ∙ ap (λ (o : Option (ℕ × Heard)). Ok o) c.in-Ok-None.field-0-is)))

pub returns-in-Ok-None-clause-heard : goal.returns-in-Ok-None-clause-heard
returns-in-Ok-None-clause-heard c = λ r meant sets.
    let m = c.args.program.now.machine in
    let view = λ (read : Result (Option (ℕ × Heard)) TraceFault). seen (event_seen c.read_event.new.room) read in
    heard-read sets r c.args.line.now (world_held m) (Ok None)
    (read-means m r c.time-time.result c.args.line.now (view c.read_event.result) meant c.read_event.ensures c.time-time.ensures
    ∙ ap view (c.in-Ok-None.is ∙ ap (λ (o : Option (ℕ × Heard)). Ok o) c.in-Ok-None.field-0-is))

pub returns-in_ok-end-in-Ok-Some-clause-did : goal.returns-in_ok-end-in-Ok-Some-clause-did
returns-in_ok-end-in-Ok-Some-clause-did c = λ r meant.
    let m = c.args.program.now.machine in
    let view = λ (read : Result (Option (ℕ × Heard)) TraceFault). seen (event_seen c.read_event.new.room) read in
    event-line-did r c.in-Ok-Some.ms (event_heard c.read_event.new.room c.in-Ok-Some.heard) c.args.line.now (world_held m) _ c.in_ok-end-in-Ok-Some.end _
    (read-means m r c.time-time.result c.args.line.now (view c.read_event.result) meant c.read_event.ensures c.time-time.ensures
    ∙ ap view (c.in-Ok-Some.is ∙ ap (λ (o : Option (ℕ × Heard)). Ok o) c.in-Ok-Some.field-0-is)) (rw c.ready.ensures at (c.in_ok-end-in-Ok-Some.ensures.did r meant))

pub returns-in_ok-end-in-Ok-Some-clause-heard : goal.returns-in_ok-end-in-Ok-Some-clause-heard
returns-in_ok-end-in-Ok-Some-clause-heard c = λ r meant sets.
    let m = c.args.program.now.machine in
    let view = λ (read : Result (Option (ℕ × Heard)) TraceFault). seen (event_seen c.read_event.new.room) read in
    heard-event sets r c.in-Ok-Some.ms (event_heard c.read_event.new.room c.in-Ok-Some.heard) c.args.line.now (world_held m) _ c.in_ok-end-in-Ok-Some.end _
    (read-means m r c.time-time.result c.args.line.now (view c.read_event.result) meant c.read_event.ensures c.time-time.ensures
    ∙ ap view (c.in-Ok-Some.is ∙ ap (λ (o : Option (ℕ × Heard)). Ok o) c.in-Ok-Some.field-0-is)) (rw c.ready.ensures at (c.in_ok-end-in-Ok-Some.ensures.did r meant))

pub returns-in_ok-end-in-Ok-Some-clause-lasts : goal.returns-in_ok-end-in-Ok-Some-clause-lasts
returns-in_ok-end-in-Ok-Some-clause-lasts c = λ j. record { fixed = c.event_ends.ensures.fixed j; frame = c.event_ends.ensures.frame j; sets = c.args.program.now.sets.items }
