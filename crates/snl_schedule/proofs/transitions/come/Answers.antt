use Rattle.std.proofs.Common.{◌≡◌, ◌∙◌, ◌<◌, ◌≤◌, ℕ, ap, arith, length, get_or, true, refl, rules, subst}
use Rattle.snl_meaning.specs.Frames.{frame_of}
use Rattle.snl_meaning.specs.Ran.{Ran}
use Rattle.snl_output.specs.Does.{Does, Gave}
use Rattle.snl_output.proofs.Doing.{gave-silent}
use Rattle.snl_vm.specs.Counting.{Adds}
use Rattle.snl_vm.specs.Views.{world_of}
use Rattle.snl_schedule.proofs.Due.{plan-is, comes, comes-count, comes-none, comes-none-count}
use Rattle.snl_schedule.proofs.Frames.{entered-same}
use Rattle.snl_schedule.proofs.transitions.come.Goals as goal

pub do_if_due-requires-clause-runs : goal.do_if_due-requires-clause-runs
do_if_due-requires-clause-runs g c =
    let t = c.args.state_set.now in
    let q = c.in-Some.state.now in
    let within : c.args.to < length t.plan.now.states.items = search rules in
    let is : q ≡ get_or t.plan.now.states.items c.args.to q = search rules in
    (c.requires.runs c.args.to q (plan-is t c.args.to q within is)).entry

pub returns-in-Some-clause-does : goal.returns-in-Some-clause-does
returns-in-Some-clause-does g c =
    let t = c.args.state_set.now in
    let q = c.in-Some.state.now in
    let within : c.args.to < length t.plan.now.states.items = search rules in
    let is : q ≡ get_or t.plan.now.states.items c.args.to q = search rules in
    subst (λ (r : Ran (Unit {0})). Does {V = Unit {0}} (λ x. x) c.do_if_due.result (world_of c.do_if_due.new.memory.store) (g.S.Sink.told c.args.sink.now) (g.S.Sink.told c.do_if_due.new.sink) r)
    (comes t c.args.to q within is c.args.from c.is_due-is_timed.result c.is_due-due.result (world_of c.args.memory.now.store) (world_of c.enter.new.store)
    c.is_due-is_timed.ensures c.is_due-due.ensures c.enter.ensures)
    c.do_if_due.ensures.does

pub returns-in-Some-clause-steps : goal.returns-in-Some-clause-steps
returns-in-Some-clause-steps g c =
    let t = c.args.state_set.now in
    let q = c.in-Some.state.now in
    let within : c.args.to < length t.plan.now.states.items = search rules in
    let is : q ≡ get_or t.plan.now.states.items c.args.to q = search rules in
    subst (λ (n : ℕ). Adds c.do_if_due.result n c.args.steps.now c.do_if_due.new.steps)
    (comes-count t c.args.to q within is c.args.from c.is_due-is_timed.result c.is_due-due.result (world_of c.args.memory.now.store) (world_of c.enter.new.store)
    c.is_due-is_timed.ensures c.is_due-due.ensures c.enter.ensures)
    c.do_if_due.ensures.steps

pub returns-in-Some-clause-keeps : goal.returns-in-Some-clause-keeps
returns-in-Some-clause-keeps g c = record {
  frame = c.do_if_due.ensures.keeps.frame
      ∙ (ap frame_of c.enter.ensures ∙ entered-same c.args.state_set.now.context.set c.args.to c.is_due-is_timed.result (world_of c.args.memory.now.store));
  room = c.do_if_due.ensures.keeps.room;
  failures = c.do_if_due.ensures.keeps.failures;
}

pub returns-in-None-clause-does : goal.returns-in-None-clause-does
returns-in-None-clause-does g c =
    let t = c.args.state_set.now in
    let u = world_of c.enter-in-None.new.store in
    let told = g.S.Sink.told c.args.sink.now in
    let beyond : length t.plan.now.states.items ≤ c.args.to = search rules in
    subst (λ (r : Ran (Unit {0})). Gave tt u told told r)
    (comes-none t c.args.to beyond c.args.from (world_of c.args.memory.now.store) u c.enter-in-None.ensures) (gave-silent {A = Unit {0}} tt u told)

pub returns-in-None-clause-steps : goal.returns-in-None-clause-steps
returns-in-None-clause-steps g c =
    let t = c.args.state_set.now in
    let beyond : length t.plan.now.states.items ≤ c.args.to = search rules in
    omega (arith, comes-none-count t c.args.to beyond c.args.from (world_of c.args.memory.now.store))

pub returns-in-None-clause-keeps : goal.returns-in-None-clause-keeps
returns-in-None-clause-keeps g c = record {
  frame = ap frame_of c.enter-in-None.ensures ∙ entered-same c.args.state_set.now.context.set c.args.to true (world_of c.args.memory.now.store);
  room = refl;
  failures = refl;
}
