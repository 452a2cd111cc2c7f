use Rattle.std.proofs.Common.{◌+◌, arith}
use Rattle.snl_text.proofs.lexemes.block_at.Goals as goal

pub returns-clause-fits : goal.returns-clause-fits
returns-clause-fits c = (omega arith, omega (arith, c.in_ok-behind.ensures.within), c.requires.plain (2 + c.in_ok-behind.behind))
