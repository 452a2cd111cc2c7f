use Rattle.std.proofs.Common.{ap, map, refl}
use Rattle.snl_outline.specs.Names.{seen}
use Rattle.snl_observer.proofs.StepLaws.{steps-by, steps-not}
use Rattle.snl_observer.proofs.watched_step.step_at.Goals as goal

pub returns-in_default-clause-steps : goal.returns-in_default-clause-steps
returns-in_default-clause-steps g c = steps-not _ _ _

pub returns-clause-steps : goal.returns-clause-steps
returns-clause-steps g c =
    let done = c.in-Ok.done in
    steps-by c.args.line.now _ _ done.ms done.end _ c.hear_done-is_whole.result _
    (record {
      stays = c.line_done.ensures.stays;
      did = c.in-Ok.ensures.did;
      heard_is = c.in-Ok.ensures.heard;
      sets = ap (map seen) (ap (λ s. s.items) c.line_done.ensures.sets);
      led = c.hear_done-is_whole.ensures.led;
      adds = c.hear_done-is_whole.ensures.adds;
      whole = c.hear_done-is_whole.ensures.whole;
    })
    refl c.close_of.ensures.closes c.close_of.ensures.unstuck
