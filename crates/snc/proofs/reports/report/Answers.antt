use Rattle.std.proofs.Common.{◌≡◌, None, Some, refl, string_bytes}
use Rattle.snc.proofs.AnswerLaws.{report_refused, reported}
use Rattle.snc.proofs.reports.report.Goals as goal

-- it has no error
pub returns-in-Some : goal.returns-in-Some
returns-in-Some c =
    let found = c.in_ok-messages.field-0 in
    let some : found.made ≡ Some c.in-Some.tables = cc in
    reported (λ t. t.items) c.args.job.now.options c.args.job.now.tables (string_bytes c.args.job.now.file) c.args.source.now found.messages.items c.in-Some.tables.items
    found.made c.in-Some.tables some c.in_ok-messages.ensures refl

-- it has an error
pub returns-in-None : goal.returns-in-None
returns-in-None c =
    let found = c.in_ok-messages.field-0 in
    let none : found.made ≡ None = cc in
    report_refused (λ t. t.items) c.args.job.now.options c.args.job.now.tables (string_bytes c.args.job.now.file) c.args.source.now found.messages.items c.new.result.items
    found.made none c.in_ok-messages.ensures c.new.ensures.items
