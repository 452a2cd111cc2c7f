use Rattle.std.proofs.Common.{rules, FitsSigned, w64, subst, sym}
use Rattle.std.proofs.lemmas.Int.{to_z-of_z}
use Rattle.snl_meaning.specs.declared.instrs.Instr.{Instr}
use Rattle.snl_vm.specs.Stack.{stack_of}
use Rattle.snl_vm.specs.Steps.{Done, context_with, next_by}
use Rattle.snl_vm.specs.Views.{world_of}
use Rattle.snl_vm.proofs.Truths.{some-top}
use Rattle.snl_vm.proofs.reckoning.put_truth.Goals as goal

pub top-number-requires : goal.top-number-requires
top-number-requires g c =
    some-top c.args.instr.now c.requires.0 (context_with c.args.set g.at.outside c.args.operands.now) g.at.pc (stack_of c.args.operands.now) (world_of c.args.store.now) c.requires.1

pub settle-requires : goal.settle-requires
settle-requires g c = let n : FitsSigned w64 c.top-number.result = search rules in (simp to_z-of_z c.top-number.ensures, rw c.in-Settle.is at c.requires.1)

pub returns-in-Settle : goal.returns-in-Settle
returns-in-Settle g c =
    subst (λ (i : Instr). Done c.args.set g.at i c.args.operands.now (world_of c.args.store.now) (next_by g.at.pc c.settle.result) c.settle.new.operands (world_of c.args.store.now))
    (sym c.in-Settle.is) c.settle.ensures

pub look_at_clock-requires : goal.look_at_clock-requires
look_at_clock-requires g c = let n : FitsSigned w64 c.top-number.result = search rules in (simp to_z-of_z c.top-number.ensures, rw c.in-Wait.is at c.requires.1)

pub returns-in-Wait : goal.returns-in-Wait
returns-in-Wait g c =
    subst (λ (i : Instr). Done c.args.set g.at i c.args.operands.now (world_of c.args.store.now) (next_by g.at.pc c.look_at_clock.result) c.look_at_clock.new.operands
    (world_of c.look_at_clock.new.store)) (sym c.in-Wait.is) c.look_at_clock.ensures
