use Rattle.std.proofs.Common.{◌≡◌, ◌∙◌, ap, sym, arith, drop}
use Rattle.snl_json.specs.Rows.{made, last, with_tokens}
use Rattle.snl_json.proofs.Lists.{words_none, words_more}
use Rattle.snl_json.proofs.definitions.put_words.Goals as goal

pub returns : goal.returns
returns c =
    let none : c.loop-number.number ≡ 0 = omega (arith, c.loop-number-test.false) in
    c.loop-number.invariant ∙ ap (λ n. with_tokens (drop n c.args.words.now) (made c.put_empty.new.rows.items)) none
    ∙ ap (λ r. with_tokens c.args.words.now r) c.in_ok-put_empty.ensures

pub loop-number-init : goal.loop-number-init
loop-number-init c = sym (words_none c.args.words.now (made c.put_empty.new.rows.items))

pub loop-number-preserved : goal.loop-number-preserved
loop-number-preserved c =
    words_more c.args.words.now c.loop-number.number _ c.last.result (made c.put_empty.new.rows.items)
    (made c.loop-number.rows.items) (made c.put_two.new.rows.items)
    c.loop-number-test.true (omega (arith, c.loop-number.auto.number)) (c.last.ensures ∙ ap (λ s. last (made s)) c.as_slice.ensures.value)
    c.loop-number.invariant c.in_ok-put_two.ensures
