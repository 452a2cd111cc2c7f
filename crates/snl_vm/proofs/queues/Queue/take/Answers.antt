use Rattle.std.proofs.Common.{◌∙◌, ◌<◌, rules}
use Rattle.snl_vm.proofs.Items.{oldest-words}
use Rattle.snl_vm.proofs.queues.Queue.take.Goals as goal

pub returns-clause-words : goal.returns-clause-words
returns-clause-words c =
    let q = c.args.self.now in
    let some : 0 < q.held = search rules in
    c.copy_front.ensures ∙ oldest-words q.held q.width c.args.place q.ring.items c.args.words.now.items some q.whole
