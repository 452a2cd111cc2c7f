use Rattle.std.proofs.Common.{◌∙◌, ◌∷◌, [], append_assoc, refl, sym}
use Rattle.snl_observer.proofs.LineLaws.{led-ended, led-seen, led-stop-as}
use Rattle.snl_observer.proofs.TellLaws.{adds-all}
use Rattle.snl_observer.proofs.requirement_input.tell_line.Goals as goal

pub returns-then-stops-clause-led : goal.returns-then-stops-clause-led
returns-then-stops-clause-led g c = led-ended _ c.args.watch.now.machine _ _ (c.stops.ensures c.if-stops.true)

pub returns-in_default-clause-led : goal.returns-in_default-clause-led
returns-in_default-clause-led g c = led-stop-as _ c.args.watch.now.machine _ _ _ _ (c.stop.ensures.watch ∙ c.print_run.ensures.watch) c.stop.ensures.how

pub returns-clause-led : goal.returns-clause-led
returns-clause-led g c = led-seen _ _ _ _ _ _ _ _ _ _ _ (sym c.print_run.ensures.watch) refl refl refl c.hear_line.ensures.led

pub returns-clause-adds : goal.returns-clause-adds
returns-clause-adds g c = adds-all _ _ _ (c.hear_line.ensures.run ∙ c.in-Ok.ensures.run ∙ append_assoc c.args.log.now.page.run.bytes c.args.line.now (10 ∷ []))
