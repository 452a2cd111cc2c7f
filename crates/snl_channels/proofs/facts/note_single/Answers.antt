use Rattle.std.proofs.Common.{◌≡◌, false, nat_eq, is_some, None, Option}
use Rattle.std.specs.HashMap.{get}
use Rattle.snl_channels.specs.Facts.{same_pair}
use Rattle.snl_names.proofs.TableLaws.{none_of}
use Rattle.snl_channels.proofs.FactLaws.{single_noted}
use Rattle.snl_channels.proofs.facts.note_single.Goals as goal

pub returns-in_ok-insert : goal.returns-in_ok-insert
returns-in_ok-insert c =
    let whole : is_some (get nat_eq c.args.wholes.now c.args.variable) ≡ false = cc in
    let alone : is_some (get same_pair c.args.singles.now (c.args.variable, c.args.element)) ≡ false = cc in
    single_noted (λ v k. get same_pair c.args.singles.now (v, k)) (λ v k. get same_pair c.insert.new.self (v, k)) (get nat_eq c.args.wholes.now)
    c.args.variable c.args.element c.args.synced (none_of _ whole) (none_of _ alone) (λ v k. c.in_ok-insert.ensures.updates.0 (v, k))
