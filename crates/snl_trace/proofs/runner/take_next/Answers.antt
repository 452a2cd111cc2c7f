use Rattle.std.proofs.Common.{◌≡◌, [], ℕ, Option, Result, Ok, Some, subst}
use Rattle.snl_schedule.specs.declared.events.Event.{Event}
use Rattle.snl_machine.specs.MachineOf.{world_held}
use Rattle.snl_trace.specs.declared.trace_faults.TraceFault.{TraceFault}
use Rattle.snl_trace.specs.Run.{rules_of, done_by}
use Rattle.snl_trace.specs.RunOver.{LineDoes}
use Rattle.snl_trace.specs.Seen.{event_heard}
use Rattle.snl_trace.proofs.RunOverLaws.{takes-whole}
use Rattle.snl_trace.proofs.runner.take_next.Goals as goal

pub returns-in-Some-clause-does : goal.returns-in-Some-clause-does
returns-in-Some-clause-does g c =
    let m = c.args.machine.now in
    let begun = c.args.reading.now.line.items in
    let old = g.S.Sink.told c.args.sink.now in
    let new = g.S.Sink.told c.act_on.new.sink in
    let v = world_held m in
    let w = world_held c.act_on.new.machine in
    let event = event_heard c.args.reading.now.events.values c.in-Some.heard in
    let whole : begun ≡ [] = rw c.in-Some.is at c.requires.whole in
    let read : ◌≡◌ {A = Result (Option (ℕ × Event)) TraceFault} (Ok (Some (c.in-Some.ms, event))) ((rules_of m).read v.time c.args.text.now) =
    rw c.in-Some.is at c.requires.read in
    let did = subst (λ (r : Result (Option (ℕ × Event)) TraceFault). LineDoes c.act_on.result w old new (done_by (rules_of m) c.args.reading.now.number r v)) read (rw c.line.ensures.told at c.act_on.ensures.does) in
    let takes = takes-whole (rules_of m) c.act_on.result c.args.text.now begun c.args.reading.now.number v w old new whole c.requires.text did in
    rw whole (rw whole at takes)
