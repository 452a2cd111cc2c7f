use Rattle.std.proofs.Common.{◌∙◌, ◌≡◌, ◌+◌, ◌*◌, ◌++◌, suc, ap, arith, length, length-append}
use Rattle.std.proofs.Math.Nat.{suc-mul}
use Rattle.snl_vm.specs.Queues.{items_in}
use Rattle.snl_meaning.specs.World.{words_at}
use Rattle.snl_vm.proofs.Items.{items_in-append, length-words_at, one-more}
use Rattle.snl_vm.proofs.queues.Queue.add.Goals as goal

pub append_all-requires : goal.append_all-requires
append_all-requires c = let q = c.args.self.now in omega (arith, q.room, q.whole, one-more q.held q.size q.width c.requires)

pub invariant_of-self-clause-whole : goal.invariant_of-self-clause-whole
invariant_of-self-clause-whole c =
    let q = c.args.self.now in
    let more = words_at c.args.words.now c.args.place q.width in
    let later : suc q.held ≡ q.held + 1 = omega arith in
    ap length c.append_all.ensures.items
    ∙ length-append q.ring.items more
    ∙ omega (arith, q.whole, length-words_at c.args.words.now c.args.place q.width, suc-mul q.held q.width, ap (λ n. n * q.width) later)

pub returns-clause-items : goal.returns-clause-items
returns-clause-items c =
    let q = c.args.self.now in
    let more = words_at c.args.words.now c.args.place q.width in
    let later : q.held + 1 ≡ suc q.held = omega arith in
    ap (λ ws. items_in (q.held + 1) q.width ws) c.append_all.ensures.items
    ∙ ap (λ n. items_in n q.width (q.ring.items ++ more)) later
    ∙ items_in-append q.held q.width q.ring.items more q.whole (length-words_at c.args.words.now c.args.place q.width)
