use Rattle.std.proofs.Common.{◌∙◌, ◌+◌, ◌-◌, ap}
use Rattle.snl_meaning.specs.World.{zeroed}
use Rattle.snl_vm.proofs.Copies.{zeroed_more}
use Rattle.snl_vm.proofs.elements.zero_from.Goals as goal

pub loop-number-preserved : goal.loop-number-preserved
loop-number-preserved c =
    let n = c.loop-number.number in
    ap (λ ws. zeroed ws (c.args.place + (n + 1)) (c.args.count - (n + 1))) c.put_after.ensures
    ∙ zeroed_more c.loop-number.words.items c.args.place n c.args.count c.loop-number-test.true ∙ c.loop-number.invariant
