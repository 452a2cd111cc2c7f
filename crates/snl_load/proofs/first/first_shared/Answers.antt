use Rattle.std.proofs.Common.{◌≡◌, ◌∙◌, ◌++◌, ◌∷◌, ◌+◌, suc, ap, arith, drop, get_or, map, pos, rules, sym, append_assoc}
use Rattle.std.specs.Prelude.{replicate}
use Rattle.std.proofs.Math.Seq.{drop-cons}
use Rattle.snl_names.specs.CopyVariables.{variable_view}
use Rattle.snl_names.specs.Scopes.{elements}
use Rattle.snl_load.specs.First.{first_shared}
use Rattle.snl_load.proofs.Listed.{shared_more}
use Rattle.snl_load.proofs.first.first_shared.Goals as goal

-- the words of one more variable
pub loop-number-preserved : goal.loop-number-preserved
loop-number-preserved c =
    let vs = c.args.shared.now in
    let j = c.loop-number.number in
    let v = c.index-shared-number.result in
    let words = c.loop-number.words.items in
    let rest = drop (j + 1) vs in
    let next : suc j ≡ j + 1 = omega arith in
    let one : get_or vs j v ≡ v = search rules in
    let here : drop j vs ≡ v ∷ rest = drop-cons vs j v c.loop-number-test.true ∙ ap (λ x. x ∷ drop (suc j) vs) one ∙ ap (λ n. v ∷ drop n vs) next in
    let many : c.elements.result ≡ elements v.size = search rules in
    let added : c.push_zeros.new.words.items ≡ words ++ replicate (elements v.size) (pos 0) =
    c.in_ok-push_zeros.ensures ∙ ap (λ n. words ++ replicate n (pos 0)) many in
    ap (λ l. l ++ first_shared (map variable_view rest)) added
    ∙ append_assoc words (replicate (elements v.size) (pos 0)) (first_shared (map variable_view rest))
    ∙ ap (λ l. words ++ l) (sym (shared_more (variable_view v) (map variable_view rest)))
    ∙ ap (λ l. words ++ first_shared (map variable_view l)) (sym here) ∙ c.loop-number.invariant
