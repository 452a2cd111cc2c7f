use Rattle.std.proofs.Common.{◌∙◌, ◌+◌, ap, arith, drop, get_or, pos, rules, FitsSigned, w64}
use Rattle.std.proofs.lemmas.Int.{to_z-of_z}
use Rattle.std.proofs.lemmas.List.{get_or_default}
use Rattle.snl_meaning.specs.World.{overwritten}
use Rattle.snl_vm.proofs.Filled.{filled-more, filled-all}
use Rattle.snl_vm.proofs.linking.fill_all.Goals as goal

pub loop-after-preserved : goal.loop-after-preserved
loop-after-preserved c =
    let l = c.loop-after in
    let numbers = c.args.numbers.now in
    let z = get_or numbers l.after (pos 0) in
    let fits : FitsSigned w64 z = search rules in
    let did = (simp to_z-of_z at c.put_after.ensures) in
    ap (λ ws. overwritten ws (c.args.place + (l.after + 1)) (drop (l.after + 1) numbers)) did
    ∙ filled-more l.words.items c.args.place l.after numbers z c.loop-after-test.true (get_or_default numbers l.after (pos 0) z c.loop-after-test.true)
    ∙ l.invariant

pub returns : goal.returns
returns c = filled-all c.loop-after.words.items c.args.place c.loop-after.after c.args.numbers.now _ (omega (arith, c.loop-after-test.false)) c.loop-after.invariant
