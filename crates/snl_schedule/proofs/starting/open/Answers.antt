use Rattle.snl_output.proofs.Doing.{does-then, stopped-then}
use Rattle.snl_vm.specs.Views.{world_of}
use Rattle.snl_schedule.specs.Instant.{owned, refreshed_sets, begun_sets}
use Rattle.snl_schedule.specs.Loaded.{loaded, program_of}
use Rattle.std.proofs.Common.{◌∙◌, ap, rules}
use Rattle.snl_meaning.specs.Frames.{frame_of}
use Rattle.snl_schedule.proofs.Frames.{refreshed_sets-same}
use Rattle.snl_schedule.specs.Steps.{begun_sets_steps}
use Rattle.snl_schedule.proofs.Counting.{adds-then, adds-stops}
use Rattle.snl_schedule.proofs.starting.open.Goals as goal

pub returns-in-Ok-clause-does : goal.returns-in-Ok-clause-does
returns-in-Ok-clause-does g c =
    let p = program_of (loaded c.args.program.now) in
    does-then (λ x. x) c.begin_sets.result (owned p p.entry (refreshed_sets p.sets (world_of c.args.memory.now.store))) (λ _ u. begun_sets p.sets u) _ _ _ _ _ _
    (rw c.refresh_sets.ensures at c.in-Ok.ensures.does) c.begin_sets.ensures.does

pub returns-in-Err-clause-does : goal.returns-in-Err-clause-does
returns-in-Err-clause-does g c =
    let p = program_of (loaded c.args.program.now) in
    stopped-then (λ x. x) (λ x. x) c.in-Err.stop (owned p p.entry (refreshed_sets p.sets (world_of c.args.memory.now.store))) (λ _ u. begun_sets p.sets u) _ _ _
    (rw c.refresh_sets.ensures at c.in-Err.ensures.does)

pub returns-in-Ok-clause-keeps : goal.returns-in-Ok-clause-keeps
returns-in-Ok-clause-keeps g c =
    let p = program_of (loaded c.args.program.now) in
    record {
      frame = c.begin_sets.ensures.keeps.frame
          ∙ (c.enter_program.ensures.keeps.frame ∙ (ap frame_of c.refresh_sets.ensures ∙ refreshed_sets-same p.sets (world_of c.args.memory.now.store)));
      room = c.begin_sets.ensures.keeps.room ∙ c.enter_program.ensures.keeps.room;
      failures = search rules;
    }

pub returns-in-Err-clause-keeps : goal.returns-in-Err-clause-keeps
returns-in-Err-clause-keeps g c =
    let p = program_of (loaded c.args.program.now) in
    record {
      frame = c.enter_program.ensures.keeps.frame ∙ (ap frame_of c.refresh_sets.ensures ∙ refreshed_sets-same p.sets (world_of c.args.memory.now.store));
      room = c.enter_program.ensures.keeps.room;
      failures = search rules;
    }

pub returns-in-Ok-clause-steps : goal.returns-in-Ok-clause-steps
returns-in-Ok-clause-steps g c =
    let t = loaded c.args.program.now in
    let p = program_of t in
    let u = refreshed_sets p.sets (world_of c.args.memory.now.store) in
    adds-then c.begin_sets.result (owned p p.entry u) (λ _. begun_sets_steps t 0 t.plan.sets.items) _ _ _ _ _ _ _ _
    (rw c.refresh_sets.ensures at c.in-Ok.ensures.does) (rw c.refresh_sets.ensures at c.in-Ok.ensures.steps) c.begin_sets.ensures.steps

pub returns-in-Err-clause-steps : goal.returns-in-Err-clause-steps
returns-in-Err-clause-steps g c =
    let t = loaded c.args.program.now in
    let p = program_of t in
    let u = refreshed_sets p.sets (world_of c.args.memory.now.store) in
    adds-stops (Unit {0}) (λ x. x) c.in-Err.stop (owned p p.entry u) (λ _. begun_sets_steps t 0 t.plan.sets.items) _ _ _ _ _ _
    (rw c.refresh_sets.ensures at c.in-Err.ensures.does) (rw c.refresh_sets.ensures at c.in-Err.ensures.steps)
