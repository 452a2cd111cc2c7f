use Rattle.std.proofs.Common.{◌≡◌, ◌↔◌, ◌∙◌, ap, subst, sym, map, Contains}
use Rattle.snl_syntax.specs.view.Programs.{program_view}
use Rattle.snl_messages.specs.Entries.{finding_in}
use Rattle.snl_messages.specs.Findings.{Finding}
use Rattle.snl_messages.specs.Lists.{has_error}
use Rattle.snl_messages.specs.Says.{IsFound, IsOfWords, IsFoundAtAll}
use Rattle.snl_messages.proofs.FoundLaws.{with_error, without_error}
use Rattle.snl_messages.proofs.reports.all_findings.Goals as goal
use Rattle.snl_messages.proofs.reports.all_findings.Goals.{then-not-has_error+in_ok-note_limits, else-not-has_error}

pub returns : goal.returns
returns c =
    let o = c.args.options in
    let p = program_view c.args.program.now in
    let embedded = c.args.program.now.embedded.items in
    let beyond = c.args.program.now.beyond in
    let old = map finding_in c.in_ok-entries.entries.items in
    let listed : c.has_error.result ≡ has_error old = c.has_error.ensures ∙ ap (λ l. has_error (map finding_in l)) c.as_slice.ensures.value in
    elim c.if-not-has_error.branch [
      | then-not-has_error+in_ok-note_limits w ↦
          subst (λ e. (f : Finding) → Contains (map finding_in e.items) f ↔ IsFoundAtAll o p embedded beyond f) (sym w.entries-is)
          (without_error (IsFound o p embedded beyond) (IsOfWords p) old (map finding_in w.note_limits.new.entries.items) c.in_ok-entries.ensures
          (sym listed ∙ w.if-not-has_error.true) w.in_ok-note_limits.ensures)
      | else-not-has_error w ↦
          subst (λ e. (f : Finding) → Contains (map finding_in e.items) f ↔ IsFoundAtAll o p embedded beyond f) (sym w.entries-is)
          (with_error (IsFound o p embedded beyond) (IsOfWords p) old c.in_ok-entries.ensures (sym listed ∙ w.if-not-has_error.false))
    ]
