use Rattle.std.proofs.Common.{List, [], ℕ, string_bytes, subst, sym}
use Rattle.std.specs.Option.{option_map, unwrap_or}
use Rattle.snc_cli.specs.declared.output.Lines.{Lines}
use Rattle.snc_cli.specs.Streams.{taken_by}
use Rattle.snlrun.specs.Calls.{IsCall}
use Rattle.snlrun.proofs.Called.{is-call}
use Rattle.snlrun.proofs.calling.session_on.Goals as goal

-- what is written out at the end was told before
pub returns-clause-call : goal.returns-clause-call
returns-clause-call c =
    let job = c.args.job.now in
    let macros : List ℕ = unwrap_or (option_map string_bytes job.macros) [] in
    let said = c.in_ok-messages in
    let trace = c.session.new.trace in
    subst (λ (took : List ℕ). IsCall job.options (string_bytes job.file) macros c.args.source.now job.budget trace.input.past.bytes trace.ended took said.messages.items said.end said.status)
    (sym c.finish.ensures.told)
    (is-call _ _ _ taken_by (λ (l : Lines). l.failures)
    job.options (string_bytes job.file) macros c.args.source.now job.budget
    c.args.trace.now trace c.args.lines.now c.session.new.sink said.messages.items said.status c.requires.unread c.requires.unwritten said.end
    c.in_ok-messages.ensures.answer)
