use Rattle.snl_moments.proofs.StepLaws.{act-is, sizes-stay}
use Rattle.snl_machine.specs.MachineOf.{world_held}
use Rattle.snl_moments.proofs.line_step.event_at.Goals as goal

pub returns : goal.returns
returns c =
    let old = c.args.machine.now in
    let new = c.event_told-answer.new.machine in
    let told = c.event_told-answer.ensures in
    record {
      goes = record { sizes = sizes-stay (world_held old) (world_held new) told.frame; stays = told.stays };
      world = λ r meant. act-is r old new c.args.ms c.args.event.now c.event_told-answer.result meant told.takes told.means;
    }
