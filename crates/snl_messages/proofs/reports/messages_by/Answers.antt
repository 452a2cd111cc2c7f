use Rattle.std.proofs.Common.{◌≡◌, ◌↔◌, true, subst, map, Contains}
use Rattle.snl_syntax.specs.view.Programs.{program_view}
use Rattle.snl_messages.specs.Entries.{finding_in}
use Rattle.snl_messages.specs.Messages.{said}
use Rattle.snl_messages.specs.Says.{IsFoundAtAll, IsSaidUnder}
use Rattle.snl_messages.specs.Silence.{lets_through}
use Rattle.snl_messages.proofs.GivenLaws.{given_through}
use Rattle.snl_messages.proofs.reports.messages_by.Goals as goal

pub returns-clause-exactly : goal.returns-clause-exactly
returns-clause-exactly c m =
    let p = program_view c.args.program.now in
    let embedded = c.args.program.now.embedded.items in
    let beyond = c.args.program.now.beyond in
    let o = c.options_in_force-options.result in
    let listed = map said c.in_ok-messages.messages.items in
    let same = c.in_ok-messages.ensures.given m in
    let law = given_through (Contains (map finding_in c.in_ok-entries.entries.items)) (IsFoundAtAll o p embedded beyond) (λ f. lets_through o f ≡ true) c.in_ok-entries.ensures m in
    subst (λ r. Contains listed m ↔ IsSaidUnder r p embedded beyond m) c.options_in_force-options.ensures ((λ h. law.0 (same.0 h)), (λ h. same.1 (law.1 h)))
