use Rattle.std.proofs.Common.{◌≡◌, ◌≤◌, ◌<◌, ◌*◌, ◌^◌, ap, arith}
use Rattle.snl_units.proofs.ExactLaws.{quotient-small}
use Rattle.snl_units.proofs.exact.divided.Goals as goal

pub returns-in-None-clause-none : goal.returns-in-None-clause-none
returns-in-None-clause-none c n is =
    let zeros = c.args.zeros in
    let same : c.from.result * 10 ^ zeros ≡ c.args.bottom * 10 ^ zeros = ap (λ b. b * 10 ^ zeros) c.from.ensures in
    let less : c.args.over < c.args.bottom * 10 ^ zeros = omega (arith, c.ranges.over.fits, c.in-None.ensures.none, same) in
    quotient-small c.args.over (c.args.bottom * 10 ^ zeros) n c.requires less is
