use Rattle.std.proofs.Common.{◌≡◌, List, [], ℕ, None, Some, string_bytes}
use Rattle.std.specs.Option.{option_map, unwrap_or}
use Rattle.snl_views.proofs.RunAnswers.{accepted-run, refused-run}
use Rattle.snl_views.proofs.running.run_folded.Goals as goal

-- the program was run
pub returns-clause-run : goal.returns-clause-run
returns-clause-run g c =
    let job = c.args.job.now in
    let macros : List ℕ = unwrap_or (option_map string_bytes job.macros) [] in
    let found = c.in_ok-messages.field-0 in
    let trace = c.in_ok-told.told.trace in
    let some : found.made ≡ Some c.in-Some.stage = cc in
    accepted-run job.options (string_bytes job.file) macros c.args.subject.source.now found.messages.items job.budget (g.R.Source.gave trace) (g.R.Source.ended trace)
    (g.W.Sink.told c.args.witness) (g.W.Sink.told c.in_ok-told.told.sink.1) found.made
    c.in-Some.stage c.as_mut.result.now c.in_ok-told.told.end some c.as_mut.ensures.value c.in_ok-messages.ensures c.in_ok-told.ensures.runs

-- it has an error
pub returns-in_default-clause-run : goal.returns-in_default-clause-run
returns-in_default-clause-run g c =
    let job = c.args.job.now in
    let macros : List ℕ = unwrap_or (option_map string_bytes job.macros) [] in
    let found = c.in_ok-messages.field-0 in
    let none : found.made ≡ None = cc in
    refused-run job.options (string_bytes job.file) macros c.args.subject.source.now found.messages.items job.budget (g.R.Source.gave c.args.trace) (g.R.Source.ended c.args.trace)
    (g.W.Sink.told c.args.witness) (g.W.Sink.told c.args.witness) found.made none c.in_ok-messages.ensures
