use Rattle.std.proofs.Common.{◌∙◌, arith, sym}
use Rattle.snl_moments.proofs.ReadLaws.{some-same}
use Rattle.snl_moments.proofs.times.due_time.Goals as goal

pub returns-else-is_behind-clause-none : goal.returns-else-is_behind-clause-none
returns-else-is_behind-clause-none c = λ r ms meant next at read.
    let same = some-same c.in_ok-ms.ms ms (sym c.in_ok-ms.was ∙ c.next_time.ensures ∙ next) in
    omega (arith, same, c.is_behind.ensures.sooner c.if-is_behind.false r meant at read)
