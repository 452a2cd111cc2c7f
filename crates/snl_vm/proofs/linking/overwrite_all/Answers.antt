use Rattle.std.proofs.Common.{◌∙◌, ◌+◌, ◌-◌, ap, FitsSigned, w64, rules}
use Rattle.std.proofs.lemmas.Int.{to_z-of_z}
use Rattle.snl_meaning.specs.World.{words_at, overwritten}
use Rattle.snl_vm.proofs.Changes.{overwritten_more}
use Rattle.snl_vm.proofs.linking.overwrite_all.Goals as goal

pub loop-number-preserved : goal.loop-number-preserved
loop-number-preserved c =
    let n = c.loop-number.number in
    let b = c.args.others.now in
    let fits : FitsSigned w64 c.word_after.result = search rules in
    let did = (simp to_z-of_z at c.put_after.ensures) in
    ap (λ ws. overwritten ws (c.args.to + (n + 1)) (words_at b (c.args.from + (n + 1)) (c.args.count - (n + 1)))) did
    ∙ overwritten_more c.loop-number.words.items c.args.to c.args.from n c.args.count b c.word_after.result c.loop-number-test.true c.word_after.ensures
    ∙ c.loop-number.invariant
