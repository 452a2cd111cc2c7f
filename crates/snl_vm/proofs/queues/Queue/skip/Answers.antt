use Rattle.std.proofs.Common.{◌∙◌, ◌<◌, ◌-◌, ap, rules, length, length-drop, drop}
use Rattle.snl_vm.specs.Queues.{items_in}
use Rattle.snl_vm.proofs.Items.{some-there, items_in-rest, one-less, one-within, drop-first}
use Rattle.snl_vm.proofs.queues.Queue.skip.Goals as goal

pub overflow_sub-left : goal.overflow_sub-left
overflow_sub-left c = let q = c.args.self.now in let some : 0 < q.held = search rules in
    let h = one-within q.held q.width (length q.ring.items) some q.whole in search rules

pub invariant_of-self-clause-whole : goal.invariant_of-self-clause-whole
invariant_of-self-clause-whole c =
    let q = c.args.self.now in
    let some : 0 < q.held = search rules in
    ap (λ b. length b.items) c.truncate_front.ensures
    ∙ ap (λ n. length (drop (length q.ring.items - (n - q.width)) q.ring.items)) c.len.ensures.len
    ∙ ap length (drop-first q.held q.width q.ring.items some q.whole)
    ∙ length-drop q.width q.ring.items ∙ one-less q.held q.width (length q.ring.items) some q.whole

pub returns-clause-there : goal.returns-clause-there
returns-clause-there c = let q = c.args.self.now in let some : 0 < q.held = search rules in some-there q.held q.width q.ring.items some

pub returns-clause-items : goal.returns-clause-items
returns-clause-items c =
    let q = c.args.self.now in
    let some : 0 < q.held = search rules in
    ap (λ b. items_in (q.held - 1) q.width b.items) c.truncate_front.ensures
    ∙ ap (λ n. items_in (q.held - 1) q.width (drop (length q.ring.items - (n - q.width)) q.ring.items)) c.len.ensures.len
    ∙ ap (items_in (q.held - 1) q.width) (drop-first q.held q.width q.ring.items some q.whole)
    ∙ items_in-rest q.held q.width q.ring.items some
