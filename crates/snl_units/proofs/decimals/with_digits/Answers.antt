use Rattle.std.proofs.Common.{◌≤◌, ◌^◌}
use Rattle.snl_units.specs.Exact.{number_behind}
use Rattle.snl_units.proofs.ExactLaws.{digits-none, if_none}
use Rattle.snl_units.proofs.decimals.with_digits.Goals as goal

pub returns-in_err-number-clause-none : goal.returns-in_err-number-clause-none
returns-in_err-number-clause-none c =
    let l = c.loop-digit in
    let whole = number_behind c.args.number c.args.digits.now in
    if_none c.from_residual.result (2 ^ 128 ≤ whole)
    (digits-none (2 ^ 128) whole l.number l.digit-index c.args.digits.now c.loop-digit-test.true l.invariant c.in_err-number.ensures.none)
