use Rattle.std.proofs.Common.{◌≡◌, ◌↔◌, true, subst, sym, map, Contains}
use Rattle.snl_messages.specs.Entries.{finding_in}
use Rattle.snl_messages.specs.Silence.{lets_through}
use Rattle.snl_messages.proofs.GivenLaws.{given_both}
use Rattle.snl_messages.proofs.MemberLaws.{filtered}
use Rattle.snl_messages.proofs.reports.given_in_order.Goals as goal

pub returns-clause-given : goal.returns-clause-given
returns-clause-given c m =
    let lets = lets_through c.args.options in
    let same = c.in_ok-messages.ensures.given m in
    let law = given_both (λ f. Contains (map finding_in c.silence.new.entries.items) f) (λ f. Contains (map finding_in c.args.entries.items) f × (lets f ≡ true))
    (λ f. subst (λ l. Contains (map finding_in l) f ↔ (Contains (map finding_in c.args.entries.items) f × (lets f ≡ true))) (sym c.silence.ensures) (filtered finding_in lets c.args.entries.items f)) m in
    (λ h. law.0 (same.0 h), λ h. same.1 (law.1 h))
