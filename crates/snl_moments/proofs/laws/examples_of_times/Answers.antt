use Rattle.std.proofs.Common.{arith}
use Rattle.snl_moments.proofs.laws.examples_of_times.Goals as goal

pub returns : goal.returns
returns c = record {
  none = tt;
  same = (omega arith, (omega arith, (omega arith, tt)));
  early = λ are. omega (arith, are.0);
  back = λ are. omega (arith, are.1.0);
}
