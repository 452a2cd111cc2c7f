use Rattle.std.proofs.Common.{◌∙◌, rules}
use Rattle.snl_output.proofs.Doing.{does-then, stopped-then}
use Rattle.snl_vm.specs.Views.{world_of}
use Rattle.snl_schedule.specs.Event.{all_wakes, event_by}
use Rattle.snl_schedule.specs.Loaded.{loaded, program_of}
use Rattle.snl_schedule.proofs.Frames.{but-both}
use Rattle.snl_schedule.proofs.Waking.{at_line}
use Rattle.snl_schedule.specs.Steps.{event_steps}
use Rattle.snl_schedule.proofs.Counting.{adds-then, adds-stops}
use Rattle.snl_schedule.proofs.taking.pass.Goals as goal

pub returns-in-Ok-clause-does : goal.returns-in-Ok-clause-does
returns-in-Ok-clause-does g c =
    let p = program_of (loaded c.args.program.now) in
    let event = c.args.event.now in
    does-then (λ x. x) c.happen.result (all_wakes p c.args.program.now.budget c.args.ms (world_of c.args.memory.now.store))
    (λ _ u. event_by p c.args.program.now.budget c.args.ms event u.phase u) _ _ _ _ _ _
    c.in-Ok.ensures.does c.happen.ensures.does

pub returns-in-Err-clause-does : goal.returns-in-Err-clause-does
returns-in-Err-clause-does g c =
    let p = program_of (loaded c.args.program.now) in
    let event = c.args.event.now in
    stopped-then (λ x. x) (λ x. x) c.in-Err.stop (all_wakes p c.args.program.now.budget c.args.ms (world_of c.args.memory.now.store))
    (λ _ u. event_by p c.args.program.now.budget c.args.ms event u.phase u) _ _ _
    c.in-Err.ensures.does

pub returns-in-Ok-clause-keeps : goal.returns-in-Ok-clause-keeps
returns-in-Ok-clause-keeps g c = record {
  frame = but-both (world_of c.args.memory.now.store) (world_of c.wake_up.new.memory.store) (world_of c.happen.new.memory.store)
      c.wake_up.ensures.keeps.frame c.happen.ensures.keeps.frame;
  room = c.happen.ensures.keeps.room ∙ c.wake_up.ensures.keeps.room;
  failures = search rules;
}

pub returns-in-Ok-clause-time : goal.returns-in-Ok-clause-time
returns-in-Ok-clause-time g c =
    at_line (program_of (loaded c.args.program.now)) c.args.program.now.budget c.args.ms (world_of c.args.memory.now.store) (world_of c.wake_up.new.memory.store) c.happen.result
    (world_of c.happen.new.memory.store).time c.in-Ok.ensures.does.text c.in-Ok.ensures.does.is c.happen.ensures.time c.happen.ensures.goes_on

pub returns-in-Ok-clause-steps : goal.returns-in-Ok-clause-steps
returns-in-Ok-clause-steps g c =
    let t = loaded c.args.program.now in
    let event = c.args.event.now in
    adds-then c.happen.result (all_wakes (program_of t) c.args.program.now.budget c.args.ms (world_of c.args.memory.now.store))
    (λ _ u. event_steps t c.args.program.now.budget c.args.ms event u.phase u) _ _ _ _ _ _ _ _
    c.in-Ok.ensures.does c.in-Ok.ensures.steps c.happen.ensures.steps

pub returns-in-Err-clause-steps : goal.returns-in-Err-clause-steps
returns-in-Err-clause-steps g c =
    let t = loaded c.args.program.now in
    let event = c.args.event.now in
    adds-stops (Unit {0}) (λ x. x) c.in-Err.stop (all_wakes (program_of t) c.args.program.now.budget c.args.ms (world_of c.args.memory.now.store))
    (λ _ u. event_steps t c.args.program.now.budget c.args.ms event u.phase u)
    _ _ _ _ _ _
    c.in-Err.ensures.does c.in-Err.ensures.steps
