use Rattle.std.proofs.Common.{◌≡◌, true, false, nat_eq, is_some}
use Rattle.std.specs.HashMap.{get}
use Rattle.snl_rules.proofs.QueueLaws.{queue_kept, queue_added}
use Rattle.snl_rules.proofs.queues.note_size.Goals as goal

pub returns-then-contains_key : goal.returns-then-contains_key
returns-then-contains_key c =
    let there : is_some (get nat_eq c.args.sizes.now c.args.variable) ≡ true = cc in
    queue_kept c.args.variable c.args.size (get nat_eq c.args.sizes.now) there

pub returns : goal.returns
returns c =
    let absent : is_some (get nat_eq c.args.sizes.now c.args.variable) ≡ false = cc in
    queue_added c.args.variable c.args.size (get nat_eq c.args.sizes.now) (get nat_eq c.insert.new.self) absent c.in_ok-insert.ensures.updates.0
