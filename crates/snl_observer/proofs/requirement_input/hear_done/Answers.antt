use Rattle.std.proofs.Common.{ap, map}
use Rattle.snl_outline.specs.Names.{seen}
use Rattle.snl_observer.proofs.HeardLaws.{told-among, told-quiet}
use Rattle.snl_observer.proofs.LineLaws.{led-same}
use Rattle.snl_observer.proofs.requirement_input.hear_done.Goals as goal

pub returns-in-Some-clause-led : goal.returns-in-Some-clause-led
returns-in-Some-clause-led g c =
    led-same _ _ _ _ _ _ _ _ (told-among _ _ c.args.line.now c.in-Some.ms c.args.done.ms c.args.done.end _ _ c.in-Some.is (ap (map seen) c.as_slice-sets.ensures.value) c.text.ensures)
    c.hear_among.ensures.led

pub returns-in-None-clause-led : goal.returns-in-None-clause-led
returns-in-None-clause-led g c =
    led-same _ _ _ _ _ _ _ _ (told-quiet (map seen c.args.run.now.sets.items) c.args.line.now c.args.done.ms c.args.done.end c.args.run.now.page.text.items c.in-None.is)
    c.hear_quiet.ensures.led
