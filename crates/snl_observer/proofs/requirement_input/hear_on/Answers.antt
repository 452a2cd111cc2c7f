use Rattle.std.proofs.Common.{◌∷◌, ◌∙◌, [], ap}
use Rattle.snl_observer.proofs.LineLaws.{led-heard-as, led-unheard}
use Rattle.snl_observer.proofs.requirement_input.hear_on.Goals as goal

pub returns-in-Err-clause-led : goal.returns-in-Err-clause-led
returns-in-Err-clause-led g c = led-unheard (c.args.line.now ∷ []) c.args.watch.now.machine c.line_done.new.program.machine _ c.args.log.now.how c.requires.goes_on c.line_done.ensures.stays

pub returns-in-Ok-clause-led : goal.returns-in-Ok-clause-led
returns-in-Ok-clause-led g c =
    led-heard-as c.args.line.now c.args.watch.now.machine c.line_done.new.program.machine _ _ _ _ c.text.result.now c.args.log.now.how c.in-Ok.done.end _ c.write_lines-is_whole.result
    c.requires.goes_on c.line_done.ensures.stays c.text.ensures c.write_lines-is_whole.ensures.adds c.write_lines-is_whole.ensures.whole (ap (λ p. p.watch.bytes) c.note_refused.ensures.page)
    (c.note_refused.ensures.how ∙ c.end_of-log.ensures) c.in-Ok.ensures.did
