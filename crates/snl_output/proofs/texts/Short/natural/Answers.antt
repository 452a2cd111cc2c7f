use Rattle.std.proofs.Common.{◌∙◌, arith, rules}
use Rattle.std.proofs.lemmas.Fmt.{length-decimal-le}
use Rattle.snl_output.proofs.Rows.{digits-in}
use Rattle.snl_output.proofs.texts.Short.natural.Goals as goal

pub write_digits-start-requires : goal.write_digits-start-requires
write_digits-start-requires c = (omega (arith, length-decimal-le 20 c.args.number (omega arith) (omega arith) c.ranges.number.fits), search rules)

pub from-requires-clause-digits : goal.from-requires-clause-digits
from-requires-clause-digits c =
    omega (arith, c.write_digits-start.ensures.start, length-decimal-le 20 c.args.number (omega arith) (omega arith) c.ranges.number.fits)

pub from-requires-clause-within : goal.from-requires-clause-within
from-requires-clause-within c = omega (arith, c.write_digits-start.ensures.start)

pub returns : goal.returns
returns c =
    let w = c.write_digits-start in
    c.from.ensures ∙ digits-in _ _ _ w.result w.ensures.written w.ensures.start
