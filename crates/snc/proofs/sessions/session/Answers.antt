use Rattle.std.proofs.Common.{◌≡◌, sym, subst, Some, string_bytes}
use Rattle.snl_channels.specs.Links.{links}
use Rattle.snl_check.specs.Waits.{waits}
use Rattle.snl_machine.specs.Loading.{IsLoaded}
use Rattle.snl_machine.specs.declared.machine.Machine.{Machine}
use Rattle.snl_machine.specs.MachineOf.{task_of, world_held}
use Rattle.snl_load.specs.First.{first_world_of}
use Rattle.snc.specs.Answered.{macros_in}
use Rattle.snc.specs.declared.jobs.Status.{Status}
use Rattle.snc.specs.Outcomes.{IsSession}
use Rattle.snc.proofs.AnswerLaws.{ran_first, session_ran}
use Rattle.snc.proofs.sessions.session.Goals as goal

-- the machine of the program was made and run
pub returns-clause-answer : goal.returns-clause-answer
returns-clause-answer g c =
    let source = c.args.source.now in
    let given = c.args.job.now.options in
    let budget = c.args.job.now.budget in
    let macros = macros_in c.args.job.now in
    let found = c.in_ok-messages.field-0 in
    let text = found.messages.items in
    let word = string_bytes c.args.job.now.file in
    let first = c.in-Some.machine in
    let some : found.made ≡ Some first = cc in
    let end = c.run-end.result in
    let old = g.R.Source.gave c.args.trace.now in
    let new = g.R.Source.gave c.run-end.new.source in
    let ended = g.R.Source.ended c.run-end.new.source in
    let told = g.S.Sink.told c.args.sink.now in
    let told_then = g.S.Sink.told c.run-end.new.sink in
    let lent = c.as_mut.result.now in
    let session = session_ran g.R.Source.gave g.R.Source.ended g.R.Source.failures g.S.Sink.told g.S.Sink.failures given word macros source text budget
    c.args.trace.now c.run-end.new.source c.args.sink.now c.run-end.new.sink found.made first end some c.in_ok-messages.ensures
    (λ whole options loaded.
    let made = subst (λ (m : Machine). IsLoaded whole macros (waits options) budget m) (sym c.as_mut.ensures.value) loaded in
    record {
      world = world_held c.run-end.new.machine;
      ran = ran_first lent (task_of whole (links whole macros) (waits options)) (first_world_of whole (links whole macros)) budget end old new ended told told_then
          (world_held c.run-end.new.machine) made.first (c.run-end.ensures.means whole (links whole macros) (waits options) budget made.made);
      source_counted = c.run-end.ensures.source;
      sink_counted = c.run-end.ensures.sink;
    }) in
    subst (λ (s : Status).
    IsSession g.R.Source.gave g.R.Source.ended g.R.Source.failures g.S.Sink.told g.S.Sink.failures given word macros source budget
    c.args.trace.now c.run-end.new.source c.args.sink.now c.run-end.new.sink text (Some end) s) (sym c.status_of.ensures) session
