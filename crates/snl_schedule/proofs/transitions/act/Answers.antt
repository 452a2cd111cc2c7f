use Rattle.snl_output.proofs.Doing.{does-then, stopped-then}
use Rattle.snl_vm.specs.Running.{left_at}
use Rattle.snl_vm.specs.Views.{world_of}
use Rattle.snl_schedule.specs.Plans.{context_on, set_on}
use Rattle.snl_schedule.specs.declared.transitions.Turned.{Turned}
use Rattle.snl_schedule.specs.Steps.{arrived_steps}
use Rattle.snl_schedule.specs.Turn.{arrived_by, target_by}
use Rattle.snl_schedule.proofs.Counting.{adds-then, adds-stops}
use Rattle.snl_schedule.proofs.transitions.act.Goals as goal

pub returns-in-Ok-clause-does : goal.returns-in-Ok-clause-does
returns-in-Ok-clause-does g c =
    let t = c.args.state_set.now in
    does-then (λ x. x) c.arrive.result (left_at (context_on t) t.code.now c.args.clause.block (world_of c.args.memory.now.store))
    (arrived_by (set_on t) c.args.from c.args.clause.target) c.in-Ok.left _ _ _ _ _ c.in-Ok.ensures.does
    (rw c.target_by.ensures at c.arrive.ensures.does)

pub returns-in-Err-clause-does : goal.returns-in-Err-clause-does
returns-in-Err-clause-does g c =
    let t = c.args.state_set.now in
    stopped-then (λ x. x) (λ x. x) c.in-Err.stop (left_at (context_on t) t.code.now c.args.clause.block (world_of c.args.memory.now.store))
    (arrived_by (set_on t) c.args.from c.args.clause.target) _ _ _ c.in-Err.ensures.does

pub returns-in-Ok-clause-steps : goal.returns-in-Ok-clause-steps
returns-in-Ok-clause-steps g c =
    let t = c.args.state_set.now in
    adds-then c.arrive.result (left_at (context_on t) t.code.now c.args.clause.block (world_of c.args.memory.now.store))
    (λ left. arrived_steps (context_on t) t.code.now t.plan.now c.args.from (target_by left c.args.clause.target)) c.in-Ok.left _ _ _ _ _ _ _
    c.in-Ok.ensures.does c.in-Ok.ensures.steps (rw c.target_by.ensures at c.arrive.ensures.steps)

pub returns-in-Err-clause-steps : goal.returns-in-Err-clause-steps
returns-in-Err-clause-steps g c =
    let t = c.args.state_set.now in
    adds-stops Turned (λ x. x) c.in-Err.stop (left_at (context_on t) t.code.now c.args.clause.block (world_of c.args.memory.now.store))
    (λ left. arrived_steps (context_on t) t.code.now t.plan.now c.args.from (target_by left c.args.clause.target)) _ _ _ _ _ _
    c.in-Err.ensures.does c.in-Err.ensures.steps
