use Rattle.std.proofs.Common.{◌∙◌, ◌++◌, ◌<◌, ◌≢◌, ℕ, length, arith, rules, length-append}
use Rattle.std.proofs.lemmas.List.{nil_from_length}
use Rattle.std.proofs.lemmas.List.Elements.{All-append}
use Rattle.std.proofs.lemmas.Result.{IfOk-weaker}
use Rattle.snl_moments.proofs.TakeLaws.{goes-clear, none-so}
use Rattle.snl_moments.proofs.LineLaws.{goes-long}
use Rattle.snl_moments.proofs.trace_walk.end_line.Goals as goal

pub returns-then-is_empty-clause-goes : goal.returns-then-is_empty-clause-goes
returns-then-is_empty-clause-goes c =
    IfOk-weaker c.take_line.result _ _ (λ close h. goes-clear close c.args.begun.now.items c.args.text.now _ _ (nil_from_length c.args.begun.now.items (search rules)) h) c.take_line.ensures.goes

pub returns-then-is_empty-clause-clear : goal.returns-then-is_empty-clause-clear
returns-then-is_empty-clause-clear c =
    IfOk-weaker c.take_line.result _ _ (λ close _. none-so close (nil_from_length c.args.begun.now.items (search rules))) c.take_line.ensures.goes

pub returns-then-not-extend-clause-goes : goal.returns-then-not-extend-clause-goes
returns-then-not-extend-clause-goes c =
    let begun = c.args.begun.now.items in
    let text = c.args.text.now in
    let long : 32768 < length (begun ++ text) = omega (arith, c.extend.ensures.long c.if-not-extend.true, length-append begun text) in
    goes-long (begun ++ text) c.in_ok-too_long.field-0 _ _ (All-append (λ (byte : ℕ). byte ≢ 10) begun text c.requires.begun c.requires.text) long c.in_ok-too_long.ensures.tells

pub take_line-requires-2 : goal.take_line-requires-2
take_line-requires-2 c =
    rw (c.as_slice.ensures.value ∙ c.extend.ensures.ok c.if-not-extend.false) (All-append (λ (byte : ℕ). byte ≢ 10) c.args.begun.now.items c.args.text.now c.requires.begun c.requires.text)

pub returns-clause-goes : goal.returns-clause-goes
returns-clause-goes c = rw (c.as_slice.ensures.value ∙ c.extend.ensures.ok c.if-not-extend.false) at c.in_ok-close.ensures.goes
