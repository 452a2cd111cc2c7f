use Rattle.std.proofs.Common.{◌∙◌, ℕ, Option, Result, Ok, ap}
use Rattle.snl_moments.proofs.MeansLaws.{read-means}
use Rattle.snl_moments.proofs.ReadLaws.{never-quiet, never-refused}
use Rattle.snl_trace.specs.Seen.{event_heard, event_seen, seen}
use Rattle.snl_trace.specs.declared.reader.Heard.{Heard}
use Rattle.snl_trace.specs.declared.trace_faults.TraceFault.{TraceFault}
use Rattle.snl_moments.proofs.line_step.time_of.Goals as goal

pub returns-in-Ok-Some-clause-time : goal.returns-in-Ok-Some-clause-time
returns-in-Ok-Some-clause-time c = λ r meant.
    let view = λ (read : Result (Option (ℕ × Heard)) TraceFault). seen (event_seen c.read_event.new.room) read in (
      event_heard c.read_event.new.room c.in-Ok-Some._heard,
      read-means c.args.walk.now.machine r c.time-time.result c.args.line.now (view c.read_event.result) meant c.read_event.ensures c.time-time.ensures
          ∙ ap view (c.in-Ok-Some.is ∙ ap (λ (o : Option (ℕ × Heard)). Ok o) c.in-Ok-Some.field-0-is),
    )

pub returns-in-Ok-None-clause-none : goal.returns-in-Ok-None-clause-none
returns-in-Ok-None-clause-none c = λ r ms meant at.
    let view = λ (read : Result (Option (ℕ × Heard)) TraceFault). seen (event_seen c.read_event.new.room) read in
    never-quiet _ (ms, at.0)
    (read-means c.args.walk.now.machine r c.time-time.result c.args.line.now (view c.read_event.result) meant c.read_event.ensures c.time-time.ensures
    ∙ ap view (c.in-Ok-None.is ∙ ap (λ (o : Option (ℕ × Heard)). Ok o) c.in-Ok-None.field-0-is))
    at.1

pub returns-in-Err-clause-none : goal.returns-in-Err-clause-none
returns-in-Err-clause-none c = λ r ms meant at.
    let view = λ (read : Result (Option (ℕ × Heard)) TraceFault). seen (event_seen c.read_event.new.room) read in
    never-refused _ c.in-Err._fault (ms, at.0)
    (read-means c.args.walk.now.machine r c.time-time.result c.args.line.now (view c.read_event.result) meant c.read_event.ensures c.time-time.ensures ∙ ap view c.in-Err.is) at.1
