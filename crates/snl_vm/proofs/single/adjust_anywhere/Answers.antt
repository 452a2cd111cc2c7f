use Rattle.std.proofs.Common.{rules, ◌∙◌, ◌+◌, FitsSigned, w64, ℤ, List, [], pos, ap, refl, sym}
use Rattle.std.proofs.lemmas.Int.{to_z-of_z}
use Rattle.snl_meaning.specs.Ran.{Ran, Gives, then_do}
use Rattle.snl_meaning.specs.Run.{GoesTo, Step, goes_with}
use Rattle.snl_meaning.specs.Words.{adjusted}
use Rattle.snl_vm.specs.Stack.{slots_of, stack_of}
use Rattle.snl_vm.specs.Views.{world_of}
use Rattle.snl_vm.proofs.Pushing.{room-left, with-room}
use Rattle.snl_vm.proofs.single.adjust_anywhere.Goals as goal

pub push-requires : goal.push-requires
push-requires g c =
    let w = world_of c.args.store.now in
    let s = stack_of c.args.operands.now in
    let how = c.args.how in
    room-left (slots_of c.args.operands.now) s w
    (then_do (adjusted c.args.set c.args.variable how.operator how.operator_line how.line how.is_before (pos 0) w) (goes_with (g.at.pc + 1) s)) c.requires

pub returns-in-Ok : goal.returns-in-Ok
returns-in-Ok g c =
    let f : FitsSigned w64 c.in-Ok.number = search rules in
    let pushed = simp to_z-of_z at c.push.ensures.stack in
    let w = world_of c.args.store.now in
    let s = stack_of c.args.operands.now in
    let how = c.args.how in
    let whole : Ran Step = then_do (adjusted c.args.set c.args.variable how.operator how.operator_line how.line how.is_before (pos 0) w) (goes_with (g.at.pc + 1) s) in
    record {
      does = with-room (slots_of c.args.operands.now) s w whole c.requires
          ∙ ap (λ (r : Ran ℤ). then_do r (goes_with (g.at.pc + 1) s)) c.in-Ok.ensures
          ∙ ap (λ (t : List ℤ). Gives (GoesTo (g.at.pc + 1) t) (world_of c.adjust.new.store) []) (sym pushed);
      room = c.push.ensures.room;
    }

pub returns-in-Err : goal.returns-in-Err
returns-in-Err g c =
    let w = world_of c.args.store.now in
    let s = stack_of c.args.operands.now in
    let how = c.args.how in
    let whole : Ran Step = then_do (adjusted c.args.set c.args.variable how.operator how.operator_line how.line how.is_before (pos 0) w) (goes_with (g.at.pc + 1) s) in
    record {
      does = with-room (slots_of c.args.operands.now) s w whole c.requires
          ∙ ap (λ (r : Ran ℤ). then_do r (goes_with (g.at.pc + 1) s)) c.in-Err.ensures;
      room = refl;
    }
