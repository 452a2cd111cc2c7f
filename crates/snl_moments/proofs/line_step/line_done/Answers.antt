use Rattle.std.proofs.Common.{◌∙◌, ℕ, Option, Result, Some, None, Ok, ap, refl}
use Rattle.snl_machine.specs.MachineOf.{world_held}
use Rattle.snl_moments.proofs.MeansLaws.{read-means}
use Rattle.snl_moments.proofs.StepLaws.{event-world, quiet-world}
use Rattle.snl_trace.specs.Seen.{event_heard, event_seen, seen}
use Rattle.snl_trace.specs.declared.reader.Heard.{Heard}
use Rattle.snl_trace.specs.declared.trace_faults.TraceFault.{TraceFault}
use Rattle.snl_moments.proofs.line_step.line_done.Goals as goal

pub returns-in-Err : goal.returns-in-Err
returns-in-Err c =
    let m = c.args.walk.now.machine in
    let view = λ (read : Result (Option (ℕ × Heard)) TraceFault). seen (event_seen c.read_event.new.room) read in (
      refl,
      record { spares = refl; moments = refl; asked = record { sort = refl; times = refl; next = refl } },
      λ r meant. (
        c.in-Err.fault,
        read-means m r c.time-time.result c.args.line.now (view c.read_event.result) meant c.read_event.ensures c.time-time.ensures ∙ ap view c.in-Err.is,
      ),
    )

pub returns-in-Ok-None : goal.returns-in-Ok-None
returns-in-Ok-None c =
    let m = c.args.walk.now.machine in
    let view = λ (read : Result (Option (ℕ × Heard)) TraceFault). seen (event_seen c.read_event.new.room) read in (
      record {
        goes = record { sizes = refl; stays = λ p ls waits budget made. made };
        world = λ r meant.
            let read = read-means m r c.time-time.result c.args.line.now (view c.read_event.result) meant c.read_event.ensures c.time-time.ensures
            ∙ ap view (c.in-Ok-None.is ∙ ap (λ (o : Option (ℕ × Heard)). Ok o) c.in-Ok-None.field-0-is) in
            (None, read, quiet-world r c.args.line.now (world_held m) read);
      },
      record { spares = refl; moments = refl; asked = record { sort = refl; times = refl; next = refl } },
    )

pub returns-in-Ok-Some : goal.returns-in-Ok-Some
returns-in-Ok-Some c =
    let m = c.args.walk.now.machine in
    let event = event_heard c.read_event.new.room c.in-Ok-Some.heard in
    let view = λ (read : Result (Option (ℕ × Heard)) TraceFault). seen (event_seen c.read_event.new.room) read in
    let did = rw c.ready-event.ensures at c.event_at.ensures in (
      record {
        goes = did.goes;
        world = λ r meant.
            let read = read-means m r c.time-time.result c.args.line.now (view c.read_event.result) meant c.read_event.ensures c.time-time.ensures
            ∙ ap view (c.in-Ok-Some.is ∙ ap (λ (o : Option (ℕ × Heard)). Ok o) c.in-Ok-Some.field-0-is) in
            (Some (c.in-Ok-Some.ms, event), read, event-world r c.in-Ok-Some.ms event c.args.line.now (world_held m) _ read (did.world r meant));
      },
      record { spares = refl; moments = refl; asked = record { sort = refl; times = refl; next = refl } },
    )
