use Rattle.std.proofs.Common.{◌≤◌, ◌*◌, ◌^◌, ap, arith}
use Rattle.snl_units.proofs.ExactLaws.{zeros-grow, if_none}
use Rattle.snl_units.proofs.exact.multiplied.Goals as goal

pub returns-in_err-checked_mul-clause-none : goal.returns-in_err-checked_mul-clause-none
returns-in_err-checked_mul-clause-none c =
    let number = c.args.number in
    let top = c.args.top in
    let large : 2 ^ 128 ≤ number * top = omega (arith, c.in_err-checked_mul.ensures, ap (λ t. number * t) c.from.ensures) in
    if_none c.from_residual.result (2 ^ 128 ≤ number * top * 10 ^ c.args.zeros) (omega (arith, large, zeros-grow (number * top) c.args.zeros))
