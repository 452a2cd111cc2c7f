use Rattle.std.proofs.Common.{sym, subst}
use Rattle.std.specs.List.{Contains}
use Rattle.snl_rules.proofs.BrokenLaws.{broken_law}
use Rattle.snl_rules.proofs.breaking.broken_rules.Goals as goal

pub returns : goal.returns
returns c = λ b.
    let law = broken_law c.args.sites.now b in
    let e = c.in_ok-tell_by_tables.ensures in
    ((λ h. law.0 (subst (λ l. Contains l b) e h)), (λ h. subst (λ l. Contains l b) (sym e) (law.1 h)))
