use Rattle.std.proofs.Common.{◌≡◌, ◌<◌, ◌≤◌, ℕ, arith, length, get_or, refl, rules, subst}
use Rattle.snl_meaning.specs.Ran.{Ran}
use Rattle.snl_output.specs.Does.{Does, Gave}
use Rattle.snl_output.proofs.Doing.{gave-silent}
use Rattle.snl_vm.specs.Counting.{Adds}
use Rattle.snl_vm.specs.Views.{world_of}
use Rattle.snl_schedule.proofs.Due.{plan-is, leaves, leaves-count, leaves-none, leaves-none-count}
use Rattle.snl_schedule.proofs.transitions.leave.Goals as goal

pub do_if_due-requires-clause-runs : goal.do_if_due-requires-clause-runs
do_if_due-requires-clause-runs g c =
    let t = c.args.state_set.now in
    let q = c.in-Some.state.now in
    let within : c.args.from < length t.plan.now.states.items = search rules in
    let is : q ≡ get_or t.plan.now.states.items c.args.from q = search rules in
    (c.requires.runs c.args.from q (plan-is t c.args.from q within is)).exit

pub returns-in-Some-clause-does : goal.returns-in-Some-clause-does
returns-in-Some-clause-does g c =
    let t = c.args.state_set.now in
    let q = c.in-Some.state.now in
    let within : c.args.from < length t.plan.now.states.items = search rules in
    let is : q ≡ get_or t.plan.now.states.items c.args.from q = search rules in
    subst (λ (r : Ran (Unit {0})). Does {V = Unit {0}} (λ x. x) c.do_if_due.result (world_of c.do_if_due.new.memory.store) (g.S.Sink.told c.args.sink.now) (g.S.Sink.told c.do_if_due.new.sink) r)
    (leaves t c.args.from q within is c.args.to c.is_due-due.result (world_of c.args.memory.now.store) c.is_due-due.ensures) c.do_if_due.ensures.does

pub returns-in-Some-clause-steps : goal.returns-in-Some-clause-steps
returns-in-Some-clause-steps g c =
    let t = c.args.state_set.now in
    let q = c.in-Some.state.now in
    let within : c.args.from < length t.plan.now.states.items = search rules in
    let is : q ≡ get_or t.plan.now.states.items c.args.from q = search rules in
    subst (λ (n : ℕ). Adds c.do_if_due.result n c.args.steps.now c.do_if_due.new.steps)
    (leaves-count t c.args.from q within is c.args.to c.is_due-due.result (world_of c.args.memory.now.store) c.is_due-due.ensures) c.do_if_due.ensures.steps

pub returns-in-Some-clause-keeps : goal.returns-in-Some-clause-keeps
returns-in-Some-clause-keeps g c = c.do_if_due.ensures.keeps

pub returns-in-None-clause-does : goal.returns-in-None-clause-does
returns-in-None-clause-does g c =
    let t = c.args.state_set.now in
    let w = world_of c.args.memory.now.store in
    let told = g.S.Sink.told c.args.sink.now in
    let beyond : length t.plan.now.states.items ≤ c.args.from = search rules in
    subst (λ (r : Ran (Unit {0})). Gave tt w told told r) (leaves-none t c.args.from beyond c.args.to w) (gave-silent {A = Unit {0}} tt w told)

pub returns-in-None-clause-steps : goal.returns-in-None-clause-steps
returns-in-None-clause-steps g c =
    let t = c.args.state_set.now in
    let beyond : length t.plan.now.states.items ≤ c.args.from = search rules in
    omega (arith, leaves-none-count t c.args.from beyond c.args.to (world_of c.args.memory.now.store))

pub returns-in-None-clause-keeps : goal.returns-in-None-clause-keeps
returns-in-None-clause-keeps g c = record { frame = refl; room = refl; failures = refl }
