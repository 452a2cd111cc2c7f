use Rattle.std.proofs.Common.{◌∙◌, ℕ, Option, Result, Ok, ap}
use Rattle.snl_machine.specs.MachineOf.{world_held}
use Rattle.snl_output.proofs.Doing.{gave-is}
use Rattle.snl_trace.specs.declared.reader.Heard.{Heard}
use Rattle.snl_trace.specs.declared.trace_faults.TraceFault.{TraceFault}
use Rattle.snl_trace.specs.Run.{rules_of, done_by}
use Rattle.snl_trace.specs.Seen.{seen, event_seen}
use Rattle.snl_trace.proofs.RunOverLaws.{read-is}
use Rattle.snl_trace.proofs.runner.process.Goals as goal

pub returns-in-Err-clause-does : goal.returns-in-Err-clause-does
returns-in-Err-clause-does g c =
    let m = c.args.machine.now in
    let view = λ (r : Result (Option (ℕ × Heard)) TraceFault). seen (event_seen c.read_event.new.room) r in
    gave-is _ _ _ _
    (ap (λ read. done_by (rules_of m) c.args.number read (world_held m))
    (read-is m c.time.result c.args.line.now (view c.read_event.result) c.read_event.ensures c.time.ensures ∙ ap view c.in-Err.is))

pub returns-in-Ok-None-clause-does : goal.returns-in-Ok-None-clause-does
returns-in-Ok-None-clause-does g c =
    let m = c.args.machine.now in
    let view = λ (r : Result (Option (ℕ × Heard)) TraceFault). seen (event_seen c.read_event.new.room) r in
    gave-is _ _ _ _
    (ap (λ read. done_by (rules_of m) c.args.number read (world_held m))
    (read-is m c.time.result c.args.line.now (view c.read_event.result) c.read_event.ensures c.time.ensures
    ∙ ap view (c.in-Ok-None.is ∙ ap (λ (o : Option (ℕ × Heard)). Ok o) c.in-Ok-None.field-0-is)))

pub returns-in-Ok-Some-clause-does : goal.returns-in-Ok-Some-clause-does
returns-in-Ok-Some-clause-does g c =
    let m = c.args.machine.now in
    let view = λ (r : Result (Option (ℕ × Heard)) TraceFault). seen (event_seen c.read_event.new.room) r in
    rw (read-is m c.time.result c.args.line.now (view c.read_event.result) c.read_event.ensures c.time.ensures
    ∙ ap view (c.in-Ok-Some.is ∙ ap (λ (o : Option (ℕ × Heard)). Ok o) c.in-Ok-Some.field-0-is)) (rw c.line.ensures.told at c.act_on.ensures.does)
