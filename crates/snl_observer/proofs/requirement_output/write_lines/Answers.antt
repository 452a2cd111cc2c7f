use Rattle.std.proofs.Common.{◌∙◌, refl}
use Rattle.snl_observer.proofs.TellLaws.{part-none, part-on}
use Rattle.snl_observer.proofs.requirement_output.write_lines.Goals as goal

pub loop-line-init : goal.loop-line-init
loop-line-init g c = record { part = part-none _ _; run = refl; how = refl }

pub loop-line-preserved : goal.loop-line-preserved
loop-line-preserved g c = record {
  part = part-on _ _ _ _ _ c.in-Some.line.now c.in-Some.rest.now c.loop-line.invariant.part c.in-Some.ensures.cut (c.write_line.ensures.written c.if-not-write_line.false);
  run = c.write_line.ensures.run ∙ c.loop-line.invariant.run;
  how = c.write_line.ensures.how ∙ c.loop-line.invariant.how;
}
