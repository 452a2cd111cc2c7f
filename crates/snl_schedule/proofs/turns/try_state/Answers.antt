use Rattle.snl_output.proofs.Doing.{does-then, stopped-then}
use Rattle.snl_vm.specs.Views.{world_of}
use Rattle.snl_schedule.specs.Plans.{clause_by, context_on, set_on}
use Rattle.snl_schedule.specs.Turn.{chosen, fired, state_in}
use Rattle.snl_vm.proofs.Adding.{adds-is}
use Rattle.snl_schedule.specs.declared.transitions.Turned.{Turned}
use Rattle.snl_schedule.specs.Steps.{transition_steps}
use Rattle.snl_schedule.proofs.Counting.{tested-stops}
use Rattle.snl_schedule.proofs.turns.try_state.Goals as goal

pub returns-in-Ok-clause-does : goal.returns-in-Ok-clause-does
returns-in-Ok-clause-does g c =
    let t = c.args.state_set.now in
    let s = set_on t in
    does-then (λ b. b) c.fire.result (chosen (state_in s c.args.from).clauses (world_of c.args.memory.now.store)) (fired s c.args.from) (clause_by (context_on t) t.code.now c.in-Ok.clause) _ _ _ _ _
    (rw c.clauses_of-clauses.ensures.means at c.in-Ok.ensures.does) c.fire.ensures.does

pub returns-in-Err-clause-does : goal.returns-in-Err-clause-does
returns-in-Err-clause-does g c =
    let t = c.args.state_set.now in
    let s = set_on t in
    stopped-then (λ b. b) (clause_by (context_on t) t.code.now) c.in-Err.stop (chosen (state_in s c.args.from).clauses (world_of c.args.memory.now.store)) (fired s c.args.from) _ _ _
    (rw c.clauses_of-clauses.ensures.means at c.in-Err.ensures.does)

pub returns-in-Ok-clause-steps : goal.returns-in-Ok-clause-steps
returns-in-Ok-clause-steps g c =
    let t = c.args.state_set.now in
    let fire = transition_steps (context_on t) t.code.now t.plan.now c.args.from in
    adds-is c.fire.result _ _ _ _ _ (rw c.clauses_of-clauses.ensures.plans at (c.in-Ok.ensures.steps fire)) c.fire.ensures.steps

pub returns-in-Err-clause-steps : goal.returns-in-Err-clause-steps
returns-in-Err-clause-steps g c =
    let t = c.args.state_set.now in
    let fire = transition_steps (context_on t) t.code.now t.plan.now c.args.from in
    tested-stops Turned fire c.in-Err.stop _ _ _ _ (rw c.clauses_of-clauses.ensures.plans at (c.in-Err.ensures.steps fire))
