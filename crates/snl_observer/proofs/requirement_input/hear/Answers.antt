use Rattle.snl_observer.proofs.LineLaws.{led-ended-by}
use Rattle.snl_observer.proofs.requirement_input.hear.Goals as goal

pub returns-in-Some-clause-led : goal.returns-in-Some-clause-led
returns-in-Some-clause-led g c = led-ended-by _ c.args.watch.now.machine _ _ _ c.in-Some.is
