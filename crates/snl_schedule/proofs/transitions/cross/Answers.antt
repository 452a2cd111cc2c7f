use Rattle.std.proofs.Common.{◌∙◌, Ok, Err, refl, slice_get}
use Rattle.snl_output.proofs.Doing.{does-then, gave-silent, stopped-then}
use Rattle.snl_meaning.specs.Ran.{then_do}
use Rattle.snl_vm.specs.Views.{world_of}
use Rattle.snl_vm.proofs.Adding.{adds-stopped}
use Rattle.snl_schedule.specs.declared.transitions.Turned.{Turned}
use Rattle.snl_schedule.specs.declared.transitions.Turned.TheVariants.{Moved}
use Rattle.snl_schedule.proofs.Kept.{failed-passed}
use Rattle.snl_schedule.specs.Plans.{context_on, set_on}
use Rattle.snl_schedule.specs.Steps.{come_steps}
use Rattle.snl_schedule.proofs.Counting.{adds-then, adds-stops}
use Rattle.snl_schedule.specs.Turn.{left_for, come_to, moved}
use Rattle.snl_schedule.proofs.transitions.cross.Goals as goal

pub returns-in-Ok-come-clause-does : goal.returns-in-Ok-come-clause-does
returns-in-Ok-come-clause-does g c =
    let s = set_on c.args.state_set.now in
    let u = world_of c.leave.new.memory.store in
    let v = world_of c.come.new.memory.store in
    does-then {V = Turned} (λ t. t) (Ok Moved) (left_for s c.args.from c.args.to (world_of c.args.memory.now.store)) (λ _ x. then_do (come_to s c.args.from c.args.to x) moved) _ u v _ _ _
    c.in-Ok.ensures.does
    (does-then {V = Turned} (λ t. t) (Ok Moved) (come_to s c.args.from c.args.to u) moved _ v v _ _ _ c.in-Ok-come.ensures.does (gave-silent Moved v (g.S.Sink.told c.come.new.sink)))

pub returns-in-Err-come-clause-does : goal.returns-in-Err-come-clause-does
returns-in-Err-come-clause-does g c =
    let s = set_on c.args.state_set.now in
    let u = world_of c.leave.new.memory.store in
    does-then (λ t. t) (Err c.in-Err-come.stop) (left_for s c.args.from c.args.to (world_of c.args.memory.now.store)) (λ _ v. then_do (come_to s c.args.from c.args.to v) moved) _ u _ _ _ _
    c.in-Ok.ensures.does
    (stopped-then (λ t. t) (λ x. x) c.in-Err-come.stop (come_to s c.args.from c.args.to u) moved _ _ _ c.in-Err-come.ensures.does)

pub returns-in-Err-clause-does : goal.returns-in-Err-clause-does
returns-in-Err-clause-does g c =
    let s = set_on c.args.state_set.now in
    stopped-then (λ t. t) (λ x. x) c.in-Err.stop (left_for s c.args.from c.args.to (world_of c.args.memory.now.store)) (λ _ v. then_do (come_to s c.args.from c.args.to v) moved) _ _ _
    c.in-Err.ensures.does

pub returns-in-Ok-come-clause-steps : goal.returns-in-Ok-come-clause-steps
returns-in-Ok-come-clause-steps g c =
    let t = c.args.state_set.now in
    adds-then {V = Turned} (Ok Moved) (left_for (set_on t) c.args.from c.args.to (world_of c.args.memory.now.store))
    (λ _. come_steps (context_on t) t.code.now c.args.from c.args.to (slice_get t.plan.now.states.items c.args.to)) _ (world_of c.leave.new.memory.store) _ _ _ _ _ _
    c.in-Ok.ensures.does c.in-Ok.ensures.steps c.in-Ok-come.ensures.steps

pub returns-in-Err-come-clause-steps : goal.returns-in-Err-come-clause-steps
returns-in-Err-come-clause-steps g c =
    let t = c.args.state_set.now in
    adds-then {V = Turned} (Err c.in-Err-come.stop) (left_for (set_on t) c.args.from c.args.to (world_of c.args.memory.now.store))
    (λ _. come_steps (context_on t) t.code.now c.args.from c.args.to (slice_get t.plan.now.states.items c.args.to)) _ (world_of c.leave.new.memory.store) _ _ _ _ _ _
    c.in-Ok.ensures.does c.in-Ok.ensures.steps (adds-stopped (Unit {0}) Turned c.in-Err-come.stop _ _ _ c.in-Err-come.ensures.steps)

pub returns-in-Err-clause-steps : goal.returns-in-Err-clause-steps
returns-in-Err-clause-steps g c =
    let t = c.args.state_set.now in
    adds-stops Turned (λ x. x) c.in-Err.stop (left_for (set_on t) c.args.from c.args.to (world_of c.args.memory.now.store))
    (λ _. come_steps (context_on t) t.code.now c.args.from c.args.to (slice_get t.plan.now.states.items c.args.to)) _ _ _ _ _ _
    c.in-Err.ensures.does c.in-Err.ensures.steps

pub returns-in-Ok-come-clause-keeps : goal.returns-in-Ok-come-clause-keeps
returns-in-Ok-come-clause-keeps g c = record {
  frame = c.come.ensures.keeps.frame ∙ c.leave.ensures.keeps.frame;
  room = c.come.ensures.keeps.room ∙ c.leave.ensures.keeps.room;
  failures = c.in-Ok-come.ensures.keeps.failures ∙ c.in-Ok.ensures.keeps.failures;
}

pub returns-in-Err-come-clause-keeps : goal.returns-in-Err-come-clause-keeps
returns-in-Err-come-clause-keeps g c = record {
  frame = c.come.ensures.keeps.frame ∙ c.leave.ensures.keeps.frame;
  room = c.come.ensures.keeps.room ∙ c.leave.ensures.keeps.room;
  failures = failed-passed (Unit {0}) Turned c.in-Err-come.stop _ _ _ c.in-Ok.ensures.keeps.failures c.in-Err-come.ensures.keeps.failures;
}

pub returns-in-Err-clause-keeps : goal.returns-in-Err-clause-keeps
returns-in-Err-clause-keeps g c = record {
  frame = c.leave.ensures.keeps.frame;
  room = c.leave.ensures.keeps.room;
  failures = failed-passed (Unit {0}) Turned c.in-Err.stop _ _ _ refl c.in-Err.ensures.keeps.failures;
}
