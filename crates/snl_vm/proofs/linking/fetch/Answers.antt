use Rattle.std.proofs.Common.{rules, ap}
use Rattle.snl_meaning.specs.World.{words_at, overwritten, no_copy}
use Rattle.snl_vm.specs.Views.{copy_view, world_of}
use Rattle.snl_vm.proofs.Changes.{view_changed}
use Rattle.snl_vm.proofs.linking.fetch.Goals as goal

pub returns-in-Some : goal.returns-in-Some
returns-in-Some c =
    let w = world_of c.args.store.now in
    let t = c.args.tie in
    let old = c.in-Some.copy.now in
    let words = (rw c.as_slice-buffers.ensures.value at c.overwrite.ensures) in
    ap (λ cs. record w { copies = cs })
    (view_changed copy_view c.args.store.now.copies.items c.args.set old (record old { words = c.overwrite.new.words }) no_copy
    (λ k. record k { words = overwritten k.words c.args.place (words_at c.args.store.now.buffers.items t.from t.count) }) (search rules) (search rules)
    (ap (λ ws. record { words = ws; state = old.state; entered = old.entered }) words))
