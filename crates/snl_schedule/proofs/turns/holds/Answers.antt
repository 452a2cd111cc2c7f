use Rattle.std.proofs.Common.{◌∙◌, ◌+◌, ℕ, Bool, Option, Some, ap, sym, subst, refl}
use Rattle.snl_output.specs.Does.{Does}
use Rattle.snl_output.proofs.Doing.{gave-is}
use Rattle.snl_meaning.specs.World.{World}
use Rattle.snl_vm.specs.Counting.{Adds}
use Rattle.snl_vm.specs.Views.{world_of}
use Rattle.snl_schedule.specs.Plans.{context_on, test_at}
use Rattle.snl_schedule.specs.Steps.{block_steps}
use Rattle.snl_schedule.proofs.turns.holds.Goals as goal

pub holds_by-requires-clause-is : goal.holds_by-requires-clause-is
holds_by-requires-clause-is g c = rw c.in-Some.is at c.requires.tested

pub holds_by-requires-clause-value : goal.holds_by-requires-clause-value
holds_by-requires-clause-value g c = (rw c.in-Some.is at c.requires.runs) (world_of c.args.memory.now.store)

pub evaluated-requires-clause-ready : goal.evaluated-requires-clause-ready
evaluated-requires-clause-ready g c = record { room = c.requires.ready.room; failures = c.requires.ready.failures }

pub evaluated-requires-clause-runs : goal.evaluated-requires-clause-runs
evaluated-requires-clause-runs g c = rw c.in-Some.is at c.requires.runs

-- ---- a test

pub returns-in-Some-holds_by-clause-does : goal.returns-in-Some-holds_by-clause-does
returns-in-Some-holds_by-clause-does g c =
    let h = context_on c.args.state_set.now in
    let code = c.args.state_set.now.code.now in
    let w = world_of c.args.memory.now.store in
    gave-is c.in-Some-holds_by.is_true (world_of c.holds_by.new.store) (g.S.Sink.told c.args.sink.now) (test_at h code c.args.condition w)
    (ap (λ (o : Option ℕ). test_at h code o w) c.in-Some.is ∙ c.in-Some-holds_by.ensures.does)

pub returns-in-Some-holds_by-clause-steps : goal.returns-in-Some-holds_by-clause-steps
returns-in-Some-holds_by-clause-steps g c =
    let h = context_on c.args.state_set.now in
    let code = c.args.state_set.now.code.now in
    let w = world_of c.args.memory.now.store in
    c.in-Some-holds_by.ensures.steps ∙ ap (λ (o : Option ℕ). c.args.steps.now + block_steps h code o w) (sym c.in-Some.is)

pub returns-in-Some-holds_by-clause-keeps : goal.returns-in-Some-holds_by-clause-keeps
returns-in-Some-holds_by-clause-keeps g c = record { frame = c.holds_by.ensures.frame; room = refl; failures = refl }

-- ---- its code

pub returns-in-None-holds_by-clause-does : goal.returns-in-None-holds_by-clause-does
returns-in-None-holds_by-clause-does g c =
    let h = context_on c.args.state_set.now in
    let code = c.args.state_set.now.code.now in
    let told = g.S.Sink.told c.args.sink.now in
    let to : World = world_of c.evaluated.new.memory.store in
    subst (λ (o : Option ℕ). Does {V = Bool} {A = Bool} (λ b. b) c.evaluated.result to told (g.S.Sink.told c.evaluated.new.sink) (test_at h code o (world_of c.args.memory.now.store)))
    (sym c.in-Some.is)
    (subst (λ (w : World). Does {V = Bool} {A = Bool} (λ b. b) c.evaluated.result to told (g.S.Sink.told c.evaluated.new.sink) (test_at h code (Some c.in-Some.start) w))
    c.in-None-holds_by.ensures.undone c.evaluated.ensures.does)

pub returns-in-None-holds_by-clause-steps : goal.returns-in-None-holds_by-clause-steps
returns-in-None-holds_by-clause-steps g c =
    let h = context_on c.args.state_set.now in
    let code = c.args.state_set.now.code.now in
    let start : Option ℕ = Some c.in-Some.start in
    let w = world_of c.args.memory.now.store in
    subst (λ (o : Option ℕ). Adds {A = Bool} c.evaluated.result (block_steps h code o w) c.args.steps.now c.evaluated.new.steps) (sym c.in-Some.is)
    (subst (λ (n : ℕ). Adds {A = Bool} c.evaluated.result (block_steps h code start w) n c.evaluated.new.steps) c.in-None-holds_by.ensures.uncounted
    (subst (λ (u : World). Adds {A = Bool} c.evaluated.result (block_steps h code start u) c.holds_by.new.steps c.evaluated.new.steps) c.in-None-holds_by.ensures.undone c.evaluated.ensures.steps))

pub returns-in-None-holds_by-clause-keeps : goal.returns-in-None-holds_by-clause-keeps
returns-in-None-holds_by-clause-keeps g c = record {
  frame = c.evaluated.ensures.keeps.frame ∙ c.holds_by.ensures.frame;
  room = c.evaluated.ensures.keeps.room;
  failures = c.evaluated.ensures.keeps.failures;
}
