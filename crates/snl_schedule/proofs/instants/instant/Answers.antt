use Rattle.std.proofs.Common.{◌≡◌, ◌∙◌, ℕ, true, List, ap, Ok, Err, sym, subst}
use Rattle.std.specs.Prelude.{◌||◌, not}
use Rattle.snl_meaning.specs.declared.ties.Tied.{Tied}
use Rattle.std.specs.List.{list_all}
use Rattle.snl_output.specs.Does.{Does, Gave}
use Rattle.snl_output.proofs.Doing.{does-then, stopped-then}
use Rattle.snl_meaning.specs.Ran.{Ran}
use Rattle.snl_meaning.specs.World.{World}
use Rattle.snl_vm.specs.Views.{world_of}
use Rattle.snl_schedule.specs.Instant.{is_link_ready, is_ready, started, all_rounds}
use Rattle.snl_schedule.specs.Loaded.{loaded, program_of}
use Rattle.snl_vm.specs.Counting.{Adds}
use Rattle.snl_schedule.specs.Steps.{all_rounds_steps, started_steps}
use Rattle.snl_schedule.proofs.Counting.{adds-then, adds-stops}
use Rattle.snl_schedule.proofs.Opening.{instant-starts, steps-start}
use Rattle.snl_schedule.proofs.instants.instant.Goals as goal

pub returns-in-Ok-clause-does : goal.returns-in-Ok-clause-does
returns-in-Ok-clause-does g c =
    let p = program_of (loaded c.args.program.now) in
    let w = world_of c.args.memory.now.store in
    let u = record w { ticks = c.args.program.now.budget } in
    let ready : true ≡ is_ready p u = c.if-not-are_ready.ensures.value ∙ ap (λ (ts : List Tied). not p.waits || list_all (is_link_ready u) ts) c.as_slice.ensures.value in
    let starts = instant-starts p c.args.program.now.budget w c.in-Waiting.is ready in
    let after = world_of c.start.new.memory.store in
    let began = subst (λ (v : World). Gave {A = Unit {0}} c.in-Ok.field-0 after (g.S.Sink.told c.args.sink.now) (g.S.Sink.told c.start.new.sink) (started p v))
    c.if-not-are_ready.ensures.same c.in-Ok.ensures.does in
    subst (λ (r : Ran (Unit {0})). Does (λ x. x) c.rounds-in-Ok.result (world_of c.rounds-in-Ok.new.memory.store) (g.S.Sink.told c.args.sink.now) (g.S.Sink.told c.rounds-in-Ok.new.sink) r)
    (sym starts)
    (does-then (λ x. x) _ (started p u) (λ _ v. all_rounds p v) _ _ _ _ _ _ began c.rounds-in-Ok.ensures.does)

pub returns-in-Err-clause-does : goal.returns-in-Err-clause-does
returns-in-Err-clause-does g c =
    let p = program_of (loaded c.args.program.now) in
    let w = world_of c.args.memory.now.store in
    let u = record w { ticks = c.args.program.now.budget } in
    let ready : true ≡ is_ready p u = c.if-not-are_ready.ensures.value ∙ ap (λ (ts : List Tied). not p.waits || list_all (is_link_ready u) ts) c.as_slice.ensures.value in
    let starts = instant-starts p c.args.program.now.budget w c.in-Waiting.is ready in
    let after = world_of c.start.new.memory.store in
    let stopped = λ (v : World). Does {V = Unit {0}} {A = Unit {0}} (λ x. x) (Err c.in-Err.stop) after (g.S.Sink.told c.args.sink.now) (g.S.Sink.told c.start.new.sink) (started p v) in
    let began = subst stopped c.if-not-are_ready.ensures.same c.in-Err.ensures.does in
    subst (λ (r : Ran (Unit {0})). Does {V = Unit {0}} (λ x. x) (Err c.in-Err.stop) (world_of c.start.new.memory.store) (g.S.Sink.told c.args.sink.now) (g.S.Sink.told c.start.new.sink) r) (sym starts)
    (stopped-then {V = Unit {0}} (λ x. x) {U = Unit {0}} (λ x. x) c.in-Err.stop (started p u) (λ _ v. all_rounds p v) _ _ _ began)

pub returns-in-Ok-clause-steps : goal.returns-in-Ok-clause-steps
returns-in-Ok-clause-steps g c =
    let t = loaded c.args.program.now in
    let p = program_of t in
    let w = world_of c.args.memory.now.store in
    let u = record w { ticks = c.args.program.now.budget } in
    let ready : true ≡ is_ready p u = c.if-not-are_ready.ensures.value ∙ ap (λ (ts : List Tied). not p.waits || list_all (is_link_ready u) ts) c.as_slice.ensures.value in
    let starts = steps-start t c.args.program.now.budget w c.in-Waiting.is ready in
    let began = subst (λ (v : World). Gave {A = Unit {0}} c.in-Ok.field-0 (world_of c.start.new.memory.store) (g.S.Sink.told c.args.sink.now) (g.S.Sink.told c.start.new.sink) (started p v))
    c.if-not-are_ready.ensures.same c.in-Ok.ensures.does in
    let done = subst (λ (v : World). Adds {A = Unit {0}} (Ok tt) (started_steps t v) c.args.steps.now c.start.new.steps) c.if-not-are_ready.ensures.same c.in-Ok.ensures.steps in
    subst (λ (n : ℕ). Adds c.rounds-in-Ok.result n c.args.steps.now c.rounds-in-Ok.new.steps) (sym starts)
    (adds-then c.rounds-in-Ok.result (started p u) (λ _. all_rounds_steps t) _ _ _ _ _ _ _ _ began done c.rounds-in-Ok.ensures.steps)

pub returns-in-Err-clause-steps : goal.returns-in-Err-clause-steps
returns-in-Err-clause-steps g c =
    let t = loaded c.args.program.now in
    let p = program_of t in
    let w = world_of c.args.memory.now.store in
    let u = record w { ticks = c.args.program.now.budget } in
    let ready : true ≡ is_ready p u = c.if-not-are_ready.ensures.value ∙ ap (λ (ts : List Tied). not p.waits || list_all (is_link_ready u) ts) c.as_slice.ensures.value in
    let starts = steps-start t c.args.program.now.budget w c.in-Waiting.is ready in
    let stopped = λ (v : World). Does {V = Unit {0}} {A = Unit {0}} (λ x. x) (Err c.in-Err.stop) (world_of c.start.new.memory.store)
    (g.S.Sink.told c.args.sink.now) (g.S.Sink.told c.start.new.sink) (started p v) in
    let began = subst stopped c.if-not-are_ready.ensures.same c.in-Err.ensures.does in
    let done = subst (λ (v : World). Adds {A = Unit {0}} (Err c.in-Err.stop) (started_steps t v) c.args.steps.now c.start.new.steps) c.if-not-are_ready.ensures.same c.in-Err.ensures.steps in
    subst (λ (n : ℕ). Adds {A = Unit {0}} (Err c.in-Err.stop) n c.args.steps.now c.start.new.steps) (sym starts)
    (adds-stops (Unit {0}) (λ x. x) c.in-Err.stop (started p u) (λ _. all_rounds_steps t) _ _ _ _ _ _ began done)
