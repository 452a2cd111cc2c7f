use Rattle.std.proofs.Common.{◌≤◌, ◌+◌, ◌++◌, ◌∙◌, [], ap, sym, arith}
use Rattle.snl_written.specs.Events.{IsEventLine}
use Rattle.snl_import.specs.Trace.{told_by}
use Rattle.snl_import.proofs.LineLaws.{where_passed}
use Rattle.snl_import.proofs.TakenLaws.{event-taken}
use Rattle.snl_import.proofs.TraceLaws.{added, counted-alike}
use Rattle.snl_import.proofs.recorder.Recorder.add.Goals as goal

pub invariant_of-self-2-clause-events : goal.invariant_of-self-2-clause-events
invariant_of-self-2-clause-events g c =
    let old = c.args.self.now in
    let line = c.event_line.new.line.items in
    let ms = c.max-ms.result in
    let told = told_by c.args.name.now c.args.happening in
    let order : old.last ≤ ms = omega (arith, c.max-ms.ensures) in
    added old.first old.before old.last old.written ms c.in_ok-written.written old.text.items c.extend_from_slice.new.self.items line told old.events order
    (where_passed c.in_ok-event_line.field-0 (IsEventLine line ms told) c.in_ok-event_line.ensures c.if-not-branch.false)
    (c.in_ok-extend_from_slice.ensures.items ∙ ap (λ t. old.text.items ++ t) c.as_slice.ensures.value)
    (c.in_ok-written.ensures ∙ ap (λ n. old.written + n) (counted-alike [] c.args.name.now c.args.happening))

pub invariant_of-self-2-clause-taken : goal.invariant_of-self-2-clause-taken
invariant_of-self-2-clause-taken g c =
    let old = c.args.self.now in
    let line = c.event_line.new.line.items in
    let ms = c.max-ms.result in
    let told = told_by c.args.name.now c.args.happening in
    event-taken (g.P.Program.taken old.program) old.text.items c.extend_from_slice.new.self.items line ms told old.events.whole old.taken
    (where_passed c.in_ok-event_line.field-0 (IsEventLine line ms told) c.in_ok-event_line.ensures c.if-not-branch.false)
    (sym c.takes.ensures ∙ c.if-not-takes.false)
    (c.in_ok-extend_from_slice.ensures.items ∙ ap (λ t. old.text.items ++ t) c.as_slice.ensures.value)
