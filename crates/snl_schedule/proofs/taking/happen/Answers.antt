use Rattle.std.proofs.Common.{◌∙◌, ap}
use Rattle.snl_meaning.specs.Frames.{Frame, frame_of}
use Rattle.snl_vm.specs.Views.{world_of}
use Rattle.snl_schedule.specs.Loaded.{loaded, program_of}
use Rattle.snl_schedule.proofs.Frames.{event-same, but-at}
use Rattle.snl_schedule.proofs.Waking.{on_err}
use Rattle.snl_schedule.proofs.taking.happen.Goals as goal

pub returns-clause-keeps : goal.returns-clause-keeps
returns-clause-keeps g c =
    let w = world_of c.args.memory.now.store in
    let p = program_of (loaded c.args.program.now) in
    record {
      frame = but-at c.args.ms w (world_of c.instant.new.memory.store)
          (c.instant.ensures.keeps.frame ∙ (ap frame_of c.apply.ensures ∙ event-same p c.args.event.now (record w { time = c.args.ms })));
      room = c.instant.ensures.keeps.room;
      failures = c.instant.ensures.keeps.failures;
    }

pub returns-clause-time : goal.returns-clause-time
returns-clause-time g c =
    let w = world_of c.args.memory.now.store in
    let p = program_of (loaded c.args.program.now) in
    on_err c.instant.result
    (ap (λ (f : Frame). f.time) (c.instant.ensures.keeps.frame ∙ (ap frame_of c.apply.ensures ∙ event-same p c.args.event.now (record w { time = c.args.ms }))))
