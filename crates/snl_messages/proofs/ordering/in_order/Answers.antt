use Rattle.std.proofs.Common.{◌∙◌, ap, sym, subst, map, Contains}
use Rattle.std.proofs.lemmas.Simd.{map-map}
use Rattle.snl_messages.specs.Messages.{said, IsInOrder}
use Rattle.snl_messages.specs.Entries.{message_in}
use Rattle.snl_messages.proofs.ordering.in_order.Goals as goal

pub returns-clause-given : goal.returns-clause-given
returns-clause-given c m =
    let e = ap (map said) c.in_ok-messages.ensures ∙ map-map said message_in c.put_in_order.new.entries.items in
    let same = c.in_ok-put_in_order.ensures.given m in
    (λ h. same.0 (subst (λ l. Contains l m) e h), λ h. subst (λ l. Contains l m) (sym e) (same.1 h))

pub returns-clause-ordered : goal.returns-clause-ordered
returns-clause-ordered c =
    let e = ap (map said) c.in_ok-messages.ensures ∙ map-map said message_in c.put_in_order.new.entries.items in
    subst IsInOrder (sym e) c.in_ok-put_in_order.ensures.ordered
