use Rattle.std.proofs.Common.{◌≡◌, ◌+◌, ◌++◌, ◌∙◌, [], ℕ, List, ap, append-nil, drop, length, sym}
use Rattle.std.proofs.lemmas.List.{drop_all}
use Rattle.snl_suite.specs.Escaped.{escaped}
use Rattle.snl_suite.proofs.EscapedLaws.{escaped-on}
use Rattle.snl_suite.proofs.escaped.push_escaped.Goals as goal

pub loop-byte-preserved : goal.loop-byte-preserved
loop-byte-preserved c =
    let rest : List ℕ = escaped (drop (c.loop-byte.byte-index + 1) c.args.text.now) in
    ap (λ (l : List ℕ). l ++ rest) c.in_ok-push_byte.ensures
    ∙ sym (escaped-on c.loop-byte.out.items c.args.text.now c.loop-byte.byte-index c.loop-byte-test.true) ∙ c.loop-byte.invariant

pub returns : goal.returns
unfolding escaped
returns c =
    sym (append-nil c.loop-byte.out.items)
    ∙ ap (λ l. c.loop-byte.out.items ++ escaped l) (sym (drop_all c.loop-byte.byte-index c.args.text.now c.loop-byte-test.false)) ∙ c.loop-byte.invariant
