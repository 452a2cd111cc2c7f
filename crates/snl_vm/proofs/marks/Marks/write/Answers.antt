use Rattle.std.proofs.Common.{◌≡◌, ◌++◌, ◌∷◌, [], ◌<◌, ◌≤◌, ◌^◌, arith, below_more, length, get_or, rules, subst, FitsSigned, w64}
use Rattle.std.proofs.lemmas.Int.{to_z-of_z}
use Rattle.std.proofs.lemmas.List.{get_or_default}
use Rattle.snl_vm.specs.Pictures.{number_word}
use Rattle.snl_vm.proofs.Pictured.{mapped-more, mapped-all}
use Rattle.snl_vm.proofs.marks.Marks.write.Goals as goal

pub loop-word-preserved : goal.loop-word-preserved
loop-word-preserved c =
    let l = c.loop-word in
    let own = c.args.self.now.words.items in
    let n = get_or own l.word-index 0 in
    let same = c.as_slice-word-items.ensures.value in
    let within : l.word-index < length own = rw same at c.loop-word-test.true in
    let fits : FitsSigned w64 (number_word n) = search rules in
    let new : c.push.new.self.items ≡ l.words.items ++ number_word n ∷ [] = search (rules, to_z-of_z, same) in
    let small : n < 2 ^ 64 = rw same at (c.type_inv.word-items l.word-index).fits in
    record {
      words = mapped-more number_word l.words.items c.push.new.self.items _ own l.word-index n within (get_or_default own l.word-index 0 n within) new l.invariant.words;
      fit = below_more _ _ l.invariant.fit (λ d. subst (λ x. x < 2 ^ 64) (get_or_default own l.word-index 0 d within) small);
    }

pub returns-clause-words : goal.returns-clause-words
returns-clause-words c =
    let l = c.loop-word in
    let own = c.args.self.now.words.items in
    let beyond : length own ≤ l.word-index = omega (arith, rw c.as_slice-word-items.ensures.value at c.loop-word-test.false) in
    mapped-all number_word l.words.items _ own l.word-index beyond l.invariant.words

pub returns-clause-fit : goal.returns-clause-fit
returns-clause-fit c k d within =
    c.loop-word.invariant.fit k (omega (arith, within, rw c.as_slice-word-items.ensures.value at c.loop-word-test.false)) d
