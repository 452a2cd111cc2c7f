use Rattle.std.proofs.Common.{◌∙◌, ◌<◌, ◌-◌, ap, arith, rules, length, take}
use Rattle.snl_vm.specs.Queues.{items_in}
use Rattle.snl_vm.proofs.Items.{kept-all, kept-full, one-within}
use Rattle.snl_vm.proofs.queues.Queue.make_room.Goals as goal

pub returns-then-self-clause-items : goal.returns-then-self-clause-items
returns-then-self-clause-items c = let q = c.args.self.now in kept-all q.held q.size q.width q.ring.items c.if-self.true

pub overflow_sub-kept : goal.overflow_sub-kept
overflow_sub-kept c = let q = c.args.self.now in let some : 0 < q.held = omega arith in
    let h = one-within q.held q.width (length q.ring.items) some q.whole in search rules

pub returns-clause-items : goal.returns-clause-items
returns-clause-items c =
    let q = c.args.self.now in
    ap (λ b. items_in (q.held - 1) q.width b.items) c.truncate_back.ensures
    ∙ ap (λ n. items_in (q.held - 1) q.width (take (n - q.width) q.ring.items)) c.len.ensures.len
    ∙ kept-full q.held q.size q.width q.ring.items c.if-self.false c.requires q.whole
