use Rattle.std.proofs.Common.{◌≡◌, ◌∙◌, ◌<◌, ◌≤◌, ℕ, ap, arith, length, get_or, true, refl, rules, subst}
use Rattle.snl_meaning.specs.Frames.{frame_of}
use Rattle.snl_meaning.specs.Ran.{Ran}
use Rattle.snl_output.specs.Does.{Does, Gave}
use Rattle.snl_output.proofs.Doing.{gave-silent}
use Rattle.snl_vm.specs.Counting.{Adds}
use Rattle.snl_vm.specs.Views.{world_of}
use Rattle.snl_schedule.proofs.Due.{plan-is, begins, begins-count, begins-none, begins-none-count}
use Rattle.snl_schedule.proofs.Frames.{entered-same}
use Rattle.snl_schedule.proofs.starting.begin.Goals as goal

pub do_told-requires-clause-runs : goal.do_told-requires-clause-runs
do_told-requires-clause-runs g c =
    let t = c.args.state_set.now in
    let q = c.in-Some.state.now in
    let within : 0 < length t.plan.now.states.items = search rules in
    let is : q ≡ get_or t.plan.now.states.items 0 q = search rules in
    (c.requires.runs 0 q (plan-is t 0 q within is)).entry

pub returns-in-Some-clause-does : goal.returns-in-Some-clause-does
returns-in-Some-clause-does g c =
    let t = c.args.state_set.now in
    let q = c.in-Some.state.now in
    let within : 0 < length t.plan.now.states.items = search rules in
    let is : q ≡ get_or t.plan.now.states.items 0 q = search rules in
    subst (λ (r : Ran (Unit {0})). Does {V = Unit {0}} (λ x. x) c.do_told.result (world_of c.do_told.new.memory.store) (g.S.Sink.told c.args.sink.now) (g.S.Sink.told c.do_told.new.sink) r)
    (begins t q within is (world_of c.args.memory.now.store) (world_of c.enter.new.store) c.enter.ensures) c.do_told.ensures.does

pub returns-in-Some-clause-steps : goal.returns-in-Some-clause-steps
returns-in-Some-clause-steps g c =
    let t = c.args.state_set.now in
    let q = c.in-Some.state.now in
    let within : 0 < length t.plan.now.states.items = search rules in
    let is : q ≡ get_or t.plan.now.states.items 0 q = search rules in
    subst (λ (n : ℕ). Adds c.do_told.result n c.args.steps.now c.do_told.new.steps)
    (begins-count t q within is (world_of c.args.memory.now.store) (world_of c.enter.new.store) c.enter.ensures) c.do_told.ensures.steps

pub returns-in-None-clause-does : goal.returns-in-None-clause-does
returns-in-None-clause-does g c =
    let t = c.args.state_set.now in
    let u = world_of c.enter.new.store in
    let told = g.S.Sink.told c.args.sink.now in
    let beyond : length t.plan.now.states.items ≤ 0 = search rules in
    subst (λ (r : Ran (Unit {0})). Gave tt u told told r) (begins-none t beyond (world_of c.args.memory.now.store) u c.enter.ensures) (gave-silent {A = Unit {0}} tt u told)

pub returns-in-None-clause-steps : goal.returns-in-None-clause-steps
returns-in-None-clause-steps g c =
    let t = c.args.state_set.now in
    let beyond : length t.plan.now.states.items ≤ 0 = search rules in
    omega (arith, begins-none-count t beyond (world_of c.args.memory.now.store) (world_of c.enter.new.store) c.enter.ensures)

pub returns-in-Some-clause-keeps : goal.returns-in-Some-clause-keeps
returns-in-Some-clause-keeps g c = record {
  frame = c.do_told.ensures.keeps.frame ∙ (ap frame_of c.enter.ensures ∙ entered-same c.args.state_set.now.context.set 0 true (world_of c.args.memory.now.store));
  room = c.do_told.ensures.keeps.room;
  failures = c.do_told.ensures.keeps.failures;
}

pub returns-in-None-clause-keeps : goal.returns-in-None-clause-keeps
returns-in-None-clause-keeps g c = record {
  frame = ap frame_of c.enter.ensures ∙ entered-same c.args.state_set.now.context.set 0 true (world_of c.args.memory.now.store);
  room = refl;
  failures = refl;
}
