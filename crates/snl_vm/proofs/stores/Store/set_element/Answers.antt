use Rattle.std.proofs.Common.{rules, to_z-of_z, ◌+◌, ◌∙◌, ℤ, List, ap, slice_set}
use Rattle.snl_vm.specs.Views.{world_of}
use Rattle.snl_vm.proofs.Copies.{copy_changed, unshared}
use Rattle.snl_vm.proofs.stores.Store.set_element.Goals as goal

pub returns-in-Some : goal.returns-in-Some
returns-in-Some c =
    let w = world_of c.args.self.now in
    let words = λ (ws : List ℤ). slice_set ws (c.args.variable.place + c.args.element) c.args.number in
    let copy = c.in-Some.copy.now in
    let changed = (let f = c.ranges.number in simp to_z-of_z at c.put_after-in-Some.ensures) in
    ap (λ cs. record w { copies = cs })
    (copy_changed c.args.self.now.copies.items c.args.set copy (record copy { words = c.put_after-in-Some.new.words }) words
    (search rules) (search rules) (ap (λ ws. record { words = ws; state = copy.state; entered = copy.entered }) changed))
    ∙ unshared c.args.set c.args.variable.is_shared words w c.if-variable.false
