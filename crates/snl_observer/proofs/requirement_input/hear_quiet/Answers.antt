use Rattle.std.proofs.Common.{[], ap, sym}
use Rattle.snl_observer.proofs.LineLaws.{led-none, led-same}
use Rattle.snl_observer.specs.Heard.{heard_quiet}
use Rattle.snl_observer.proofs.requirement_input.hear_quiet.Goals as goal

pub returns-in-None-clause-led : goal.returns-in-None-clause-led
returns-in-None-clause-led g c = led-same _ _ _ _ _ _ _ _ (ap (heard_quiet c.args.line.now) (sym c.in-None.is)) c.hear.ensures.led

pub returns-in-Some-clause-led : goal.returns-in-Some-clause-led
returns-in-Some-clause-led g c = led-same [] _ _ _ _ _ _ _ (ap (heard_quiet c.args.line.now) (sym c.in-Some.is)) (led-none c.args.watch.now.machine _ _)
