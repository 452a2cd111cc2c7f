use Rattle.std.proofs.Common.{◌∙◌, refl, sym}
use Rattle.snl_observer.proofs.LineLaws.{led-seen}
use Rattle.snl_observer.proofs.lines.line_heard.Goals as goal

pub returns-clause-heard : goal.returns-clause-heard
returns-clause-heard g c = record {
  wrote = c.hear_done.new.log.page.run.bytes;
  said = c.hear_done.new.log.page.watch.bytes;
  led = led-seen _ _ _ _ _ _ _ _ _ _ _ (sym c.in_ok-log.ensures.watch) refl (sym c.in_ok-log.ensures.how) refl c.hear_done.ensures.led;
  printed = λ stuck. c.into_out.ensures (sym c.is_stuck.ensures ∙ stuck);
}
