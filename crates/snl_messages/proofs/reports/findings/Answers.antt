use Rattle.std.proofs.Common.{◌↔◌, ◌∙◌, subst, sym, Contains}
use Rattle.snl_syntax.specs.view.Programs.{program_view}
use Rattle.snl_rules.specs.Rules.{IsBroken}
use Rattle.snl_messages.specs.Lists.{found}
use Rattle.snl_messages.specs.Says.{IsFound}
use Rattle.snl_messages.specs.Silence.{is_safe}
use Rattle.snl_messages.proofs.FoundLaws.{found_is}
use Rattle.snl_messages.proofs.reports.findings.Goals as goal

pub returns : goal.returns
returns c f =
    let o = c.args.options in
    let p = program_view c.args.program.now in
    let embedded = c.args.program.now.embedded.items in
    let beyond = c.args.program.now.beyond in
    let broken = c.in_ok-broken.broken.items in
    let told = c.in_ok-entries.ensures ∙ (λ j. found (c.as_slice.ensures.value j) (c.as_slice-2.ensures.value j) embedded beyond (is_safe o) p.word) in
    subst (λ l. Contains l f ↔ IsFound o p embedded beyond f) (sym told)
    (found_is o p embedded beyond broken c.in_ok-names.names.items
    (λ b. subst (λ s. Contains broken b ↔ IsBroken s b) c.requires (c.in_ok-broken.ensures b)) c.in_ok-names.ensures f)
