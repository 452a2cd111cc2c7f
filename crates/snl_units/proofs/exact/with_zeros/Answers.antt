use Rattle.std.proofs.Common.{◌≡◌, ◌≤◌, ◌+◌, ◌-◌, ◌^◌, ◌*◌, ◌∙◌, ap, arith}
use Rattle.snl_units.proofs.ExactLaws.{zeros-none, zero-more, if_none}
use Rattle.snl_units.proofs.exact.with_zeros.Goals as goal

pub loop-preserved : goal.loop-preserved
loop-preserved c =
    let l = c.loop in
    let next : c.in_ok-number.number ≡ l.number * 10 = omega (arith, c.in_ok-number.ensures) in
    ap (λ n. n * 10 ^ (c.args.zeros - (l.counter + 1))) next ∙ (zero-more l.number c.args.zeros l.counter c.loop-test.true ∙ l.invariant)

pub returns-in_err-number-clause-none : goal.returns-in_err-number-clause-none
returns-in_err-number-clause-none c =
    let l = c.loop in
    let large : 2 ^ 128 ≤ l.number * 10 = omega (arith, c.in_err-number.ensures) in
    if_none c.from_residual.result (2 ^ 128 ≤ c.args.number * 10 ^ c.args.zeros)
    (zeros-none (2 ^ 128) (c.args.number * 10 ^ c.args.zeros) l.number c.args.zeros l.counter c.loop-test.true l.invariant large)
