use Rattle.std.proofs.Common.{◌∙◌, ap, sym, subst}
use Rattle.snl_output.specs.Devices.{told_more}
use Rattle.snl_output.specs.Does.{Does}
use Rattle.snl_output.specs.Lines.{go_line}
use Rattle.snl_vm.specs.Views.{world_of}
use Rattle.snl_schedule.specs.declared.plans.Destination.{Destination}
use Rattle.snl_schedule.specs.Goes.{name_at, target_name}
use Rattle.snl_vm.specs.Counting.{Adds}
use Rattle.snl_schedule.specs.Plans.{context_on, set_on}
use Rattle.snl_schedule.specs.Steps.{arrived_steps}
use Rattle.snl_schedule.specs.Turn.{crossed, arrived}
use Rattle.snl_schedule.proofs.Going.{arrived-cut, arrived-out, line-to}
use Rattle.snl_schedule.proofs.Telling.{told-then}
use Rattle.snl_schedule.proofs.transitions.arrive.Goals as goal

pub returns-in-State-clause-does : goal.returns-in-State-clause-does
returns-in-State-clause-does g c =
    let t = c.args.state_set.now in
    let s = set_on t in
    let w = world_of c.args.memory.now.store in
    let old = g.S.Sink.told c.args.sink.now in
    let k = c.in-State.state in
    let named = λ (to : Destination). go_line w.time t.plan.now.name.items (name_at t.plan.now.states.items c.args.transition.from) (target_name t.plan.now.states.items to) in
    let line = c.hear.ensures.told ∙ c.in-Ok.ensures.told ∙ ap (λ text. told_more old text) (ap named c.in-State.is ∙ line-to t w.time c.args.transition.from k) in
    subst (λ (to : Destination). Does (λ t. t) c.cross.result (world_of c.cross.new.memory.store) old (g.S.Sink.told c.cross.new.sink) (arrived s c.args.transition.from to w))
    (sym c.in-State.is)
    (told-then (λ t. t) c.cross.result _ (λ _ u. crossed s c.args.transition.from k u) w _ _ _ _ line c.cross.ensures.does)

pub returns-in-Err-clause-does : goal.returns-in-Err-clause-does
returns-in-Err-clause-does g c = arrived-cut c.args.state_set.now c.args.transition.from c.args.transition.target (world_of c.args.memory.now.store) _ _ c.in-Err.ensures.told

pub returns-in-Exit-clause-does : goal.returns-in-Exit-clause-does
returns-in-Exit-clause-does g c =
    arrived-out c.args.state_set.now c.args.transition.from c.args.transition.target (world_of c.args.memory.now.store) _ _ c.in-Exit.is (c.hear.ensures.told ∙ c.in-Ok.ensures.told)

pub returns-in-State-clause-steps : goal.returns-in-State-clause-steps
returns-in-State-clause-steps g c =
    let t = c.args.state_set.now in
    let w = world_of c.args.memory.now.store in
    subst (λ (to : Destination). Adds c.cross.result (arrived_steps (context_on t) t.code.now t.plan.now c.args.transition.from to w) c.args.steps.now c.cross.new.steps)
    (sym c.in-State.is) c.cross.ensures.steps
