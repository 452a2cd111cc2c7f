use Rattle.std.proofs.Common.{rules, ◌∙◌, ℤ, List, ap}
use Rattle.snl_meaning.specs.World.{zeroed}
use Rattle.snl_vm.specs.Views.{world_of}
use Rattle.snl_vm.proofs.Copies.{copy_changed, unshared}
use Rattle.snl_vm.proofs.stores.Store.clear.Goals as goal

pub returns-in-Some : goal.returns-in-Some
returns-in-Some c =
    let w = world_of c.args.self.now in
    let words = λ (ws : List ℤ). zeroed ws c.args.variable.place c.args.variable.size in
    let copy = c.in-Some.copy.now in
    ap (λ cs. record w { copies = cs })
    (copy_changed c.args.self.now.copies.items c.args.set copy (record copy { words = c.zero_from-in-Some.new.words }) words
    (search rules) (search rules) (ap (λ ws. record { words = ws; state = copy.state; entered = copy.entered }) c.zero_from-in-Some.ensures))
    ∙ unshared c.args.set c.args.variable.is_shared words w c.if-variable.false
