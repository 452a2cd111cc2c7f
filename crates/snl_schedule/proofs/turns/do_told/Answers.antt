use Rattle.std.proofs.Common.{◌∙◌, ap, arith, true}
use Rattle.snl_output.specs.Devices.{counted}
use Rattle.snl_vm.specs.Views.{world_of}
use Rattle.snl_vm.specs.Running.{context_by}
use Rattle.snl_schedule.specs.Plans.{block_at}
use Rattle.snl_schedule.proofs.Faulting.{told_fault-gave, told_fault-told, told_fault-cut, told_fault-cut_before}
use Rattle.snl_schedule.proofs.turns.do_told.Goals as goal

pub returns-in-Ok-clause-does : goal.returns-in-Ok-clause-does
returns-in-Ok-clause-does g c =
    told_fault-gave c.args.context.now.name.now (block_at (context_by c.args.context.now) c.args.code.now c.args.start (world_of c.args.memory.now.store)) _ _ _ _ c.in-Ok.ensures.does

pub returns-in-Ok-clause-steps : goal.returns-in-Ok-clause-steps
returns-in-Ok-clause-steps g c = c.in-Ok.ensures.steps

pub returns-in-Ok-clause-keeps : goal.returns-in-Ok-clause-keeps
returns-in-Ok-clause-keeps g c = record {
  frame = c.do_block.ensures.keeps.frame;
  room = c.do_block.ensures.keeps.room;
  failures = c.in-Ok.ensures.keeps.failures;
}

pub returns-in-Ok-write_fault-clause-does : goal.returns-in-Ok-write_fault-clause-does
returns-in-Ok-write_fault-clause-does g c =
    let line = rw c.fault_text.ensures at c.in-Ok-write_fault.ensures.told in
    let did = (rw c.in-Err-Fault.field-0-is at c.in-Err-Fault.ensures.does) in
    told_fault-told c.args.context.now.name.now _ _ _ _ _ _ _ did line

pub returns-in-Ok-write_fault-clause-steps : goal.returns-in-Ok-write_fault-clause-steps
returns-in-Ok-write_fault-clause-steps g c = (rw c.in-Err-Fault.field-0-is at c.in-Err-Fault.ensures.steps)

pub returns-in-Ok-write_fault-clause-keeps : goal.returns-in-Ok-write_fault-clause-keeps
returns-in-Ok-write_fault-clause-keeps g c = record {
  frame = c.do_block.ensures.keeps.frame;
  room = c.do_block.ensures.keeps.room;
  failures = c.in-Ok-write_fault.ensures.failures ∙ (rw c.in-Err-Fault.field-0-is at c.in-Err-Fault.ensures.keeps.failures);
}

pub returns-in-Err-clause-does : goal.returns-in-Err-clause-does
returns-in-Err-clause-does g c =
    let line = rw c.fault_text.ensures at c.in-Err.ensures.told in
    let did = (rw c.in-Err-Fault.field-0-is at c.in-Err-Fault.ensures.does) in
    told_fault-cut c.args.context.now.name.now _ _ _ _ _ _ _ did line

pub returns-in-Err-Sink-clause-does : goal.returns-in-Err-Sink-clause-does
returns-in-Err-Sink-clause-does g c =
    let did = (rw c.in-Err-Sink.field-0-is at c.in-Err-Sink.ensures.does) in
    told_fault-cut_before c.args.context.now.name.now (block_at (context_by c.args.context.now) c.args.code.now c.args.start (world_of c.args.memory.now.store)) _ _ did

pub returns-in-Err-clause-steps : goal.returns-in-Err-clause-steps
returns-in-Err-clause-steps g c = omega (arith, (rw c.in-Err-Fault.field-0-is at c.in-Err-Fault.ensures.steps))

pub returns-in-Err-clause-keeps : goal.returns-in-Err-clause-keeps
returns-in-Err-clause-keeps g c = record {
  frame = c.do_block.ensures.keeps.frame;
  room = c.do_block.ensures.keeps.room;
  failures = c.in-Err.ensures.failures ∙ ap (counted true) (rw c.in-Err-Fault.field-0-is at c.in-Err-Fault.ensures.keeps.failures);
}

pub returns-in-Err-Sink-clause-steps : goal.returns-in-Err-Sink-clause-steps
returns-in-Err-Sink-clause-steps g c = (rw c.in-Err-Sink.field-0-is at c.in-Err-Sink.ensures.steps)

pub returns-in-Err-Sink-clause-keeps : goal.returns-in-Err-Sink-clause-keeps
returns-in-Err-Sink-clause-keeps g c = record {
  frame = c.do_block.ensures.keeps.frame;
  room = c.do_block.ensures.keeps.room;
  failures = (rw c.in-Err-Sink.field-0-is at c.in-Err-Sink.ensures.keeps.failures);
}
