use Rattle.std.proofs.Common.{arith}
use Rattle.snl_moments.proofs.PlanLaws.{from-drop}
use Rattle.snl_moments.proofs.times.go_on.Goals as goal

pub returns-then-walk-len-clause-early : goal.returns-then-walk-len-clause-early
returns-then-walk-len-clause-early c = λ ms are. from-drop ms c.args.walk.now.times.items c.args.walk.now.next (omega (arith, c.if-walk-len.true, c.len.ensures)) are
