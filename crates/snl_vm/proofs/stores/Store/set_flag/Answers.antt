use Rattle.std.proofs.Common.{rules, ◌≤◌, Bool, List, ap, length, refl, sym}
use Rattle.std.proofs.lemmas.List.{set_past}
use Rattle.snl_vm.specs.Views.{world_of}
use Rattle.snl_vm.proofs.stores.Store.set_flag.Goals as goal

pub returns-in-Some : goal.returns-in-Some
returns-in-Some c = refl

pub returns-in_default : goal.returns-in_default
returns-in_default c =
    let w = world_of c.args.self.now in
    let all = c.args.self.now.flags.items in
    let beyond : length all ≤ c.args.flag = search rules in
    ap (λ (bs : List Bool). record w { flags = bs }) (sym (set_past all c.args.flag c.args.now beyond))
