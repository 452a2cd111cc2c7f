use Rattle.std.proofs.Common.{◌≡◌, ◌∙◌, [], ap, sym, arith, drop, length, map, drop_of_length-le}
use Rattle.snl_vm.specs.AllHomes.{homes_views, takers_of}
use Rattle.snl_vm.specs.Marks.{marks_of}
use Rattle.snl_vm.proofs.AllHomeLaws.{marked_in, marked-takers}
use Rattle.snl_vm.proofs.linking.mark.Goals as goal

pub returns : goal.returns
returns c =
    let but = c.args.but in
    let link = c.args.link in
    let homes = homes_views c.args.homes.now.sets.items in
    let over : drop c.loop-set.set-index (takers_of link 0 homes) ≡ [] =
    drop_of_length-le (takers_of link 0 homes) (omega (arith, c.loop-set-test.false, ap length c.takers-set-items.ensures)) in
    ap (λ sets. marked_in but link sets (map marks_of c.loop-set.marks.items)) (sym over) ∙ c.loop-set.invariant ∙ marked-takers but link 0 homes (map marks_of c.args.marks.now.items)
