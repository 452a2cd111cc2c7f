use Rattle.std.proofs.Common.{ℕ, Option, sym, subst, Ok, Err, refl}
use Rattle.snl_output.specs.Does.{Does, Gave}
use Rattle.snl_output.proofs.Doing.{does-then, stopped-then, gave-silent}
use Rattle.snl_vm.specs.Running.{context_by, left_at}
use Rattle.snl_vm.specs.Views.{world_of}
use Rattle.snl_schedule.specs.Plans.{block_at, ended}
use Rattle.snl_vm.proofs.Adding.{adds-stopped}
use Rattle.snl_schedule.proofs.Counting.{block-adds}
use Rattle.snl_schedule.proofs.transitions.do_block.Goals as goal

pub perform-requires-clause-over : goal.perform-requires-clause-over
perform-requires-clause-over g c = (rw c.in-Some.is at c.requires.runs) (world_of c.args.memory.now.store)

pub returns-in-Ok-clause-does : goal.returns-in-Ok-clause-does
returns-in-Ok-clause-does g c =
    let w = world_of c.args.memory.now.store in
    let u = world_of c.perform.new.memory.store in
    let context = context_by c.args.context.now in
    subst (λ (o : Option ℕ). Gave tt u (g.S.Sink.told c.args.sink.now) (g.S.Sink.told c.perform.new.sink) (block_at context c.args.code.now o w)) (sym c.in-Some.is)
    (does-then {V = Unit {0}} {A = Option ℕ} {B = Unit {0}} (λ x. x) (Ok tt) (left_at context c.args.code.now c.in-Some.start w) ended c.in-Ok.field-0 u u _ _ _
    c.in-Ok.ensures.does (gave-silent {A = Unit {0}} tt u (g.S.Sink.told c.perform.new.sink)))

pub returns-in-Err-clause-does : goal.returns-in-Err-clause-does
returns-in-Err-clause-does g c =
    let w = world_of c.args.memory.now.store in
    let u = world_of c.perform.new.memory.store in
    let context = context_by c.args.context.now in
    subst
    (λ (o : Option ℕ). Does {V = Unit {0}} {A = Unit {0}} (λ x. x) (Err c.in-Err.stop) u (g.S.Sink.told c.args.sink.now) (g.S.Sink.told c.perform.new.sink) (block_at context c.args.code.now o w))
    (sym c.in-Some.is) (stopped-then (λ x. x) (λ x. x) c.in-Err.stop (left_at context c.args.code.now c.in-Some.start w) ended _ _ _ c.in-Err.ensures.does)

pub returns-in-Ok-clause-steps : goal.returns-in-Ok-clause-steps
returns-in-Ok-clause-steps g c =
    let o : Option ℕ = c.args.start in
    block-adds {V = Unit {0}} (Ok tt) _ (context_by c.args.context.now) c.args.code.now o c.in-Some.start (world_of c.args.memory.now.store) _ _
    refl c.in-Some.is c.in-Ok.ensures.steps

pub returns-in-Err-clause-steps : goal.returns-in-Err-clause-steps
returns-in-Err-clause-steps g c =
    let o : Option ℕ = c.args.start in
    block-adds {V = Unit {0}} (Err c.in-Err.stop) _ (context_by c.args.context.now) c.args.code.now o c.in-Some.start (world_of c.args.memory.now.store) _ _
    refl c.in-Some.is (adds-stopped (Option ℕ) (Unit {0}) c.in-Err.stop _ _ _ c.in-Err.ensures.steps)
