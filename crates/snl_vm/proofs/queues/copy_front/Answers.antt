use Rattle.std.proofs.Common.{◌∙◌, ◌+◌, ◌-◌, ap, FitsSigned, w64, rules}
use Rattle.std.proofs.lemmas.Int.{to_z-of_z}
use Rattle.snl_meaning.specs.World.{words_at, overwritten}
use Rattle.snl_vm.proofs.Items.{copied-more}
use Rattle.snl_vm.proofs.queues.copy_front.Goals as goal

pub loop-number-preserved : goal.loop-number-preserved
loop-number-preserved c =
    let n = c.loop-number.number in
    let ring = c.args.ring.now.items in
    let fits : FitsSigned w64 c.word_in.result = search rules in
    let did = (simp to_z-of_z at c.put_after.ensures) in
    ap (λ ws. overwritten ws (c.args.place + (n + 1)) (words_at ring (n + 1) (c.args.count - (n + 1)))) did
    ∙ copied-more c.loop-number.words.items ring c.args.place n c.args.count c.word_in.result c.loop-number-test.true c.word_in.ensures
    ∙ c.loop-number.invariant
