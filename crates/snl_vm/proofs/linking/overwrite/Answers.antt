use Rattle.std.proofs.Common.{◌∙◌, ap, sym, FitsSigned, w64, rules}
use Rattle.std.proofs.lemmas.Int.{to_z-of_z}
use Rattle.snl_meaning.specs.World.{overwritten, words_at}
use Rattle.snl_vm.proofs.Changes.{overwritten_one}
use Rattle.snl_vm.proofs.linking.overwrite.Goals as goal

pub returns-then-count-eq1 : goal.returns-then-count-eq1
returns-then-count-eq1 c =
    let words = c.args.words.now.items in
    let fits : FitsSigned w64 c.word_after.result = search rules in
    let did = (simp to_z-of_z at c.put_after.ensures) in
    did ∙ overwritten_one words c.args.to c.args.from c.args.others.now c.word_after.result c.word_after.ensures
    ∙ sym (ap (λ n. overwritten words c.args.to (words_at c.args.others.now c.args.from n)) c.if-count-eq1.true)
