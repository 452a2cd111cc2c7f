use Rattle.std.proofs.Common.{◌≡◌, ap, subst, ◌∙◌, rules}
use Rattle.snl_output.specs.Devices.{IsCutShort}
use Rattle.snl_output.specs.Does.{Faulted, text_of}
use Rattle.snl_meaning.specs.World.{World, copy_of}
use Rattle.snl_vm.specs.Views.{world_of}
use Rattle.snl_schedule.specs.Plans.{set_on}
use Rattle.snl_schedule.specs.Refresh.{refreshed}
use Rattle.snl_schedule.specs.Turn.{tried, turn_after}
use Rattle.snl_schedule.specs.declared.transitions.Turned.{Turned}
use Rattle.snl_schedule.proofs.Faulting.{told_fault-told, told_fault-cut, told_fault-cut_before}
use Rattle.snl_meaning.specs.Frames.{frame_of}
use Rattle.snl_schedule.proofs.Frames.{refreshed-same}
use Rattle.snl_schedule.proofs.turns.turn.Goals as goal

pub returns-in-Ok-write_fault-clause-does : goal.returns-in-Ok-write_fault-clause-does
returns-in-Ok-write_fault-clause-does g c =
    let s = set_on c.args.state_set.now in
    let w = world_of c.args.memory.now.store in
    let fresh : world_of c.refresh.new.store ≡ refreshed s.set w = c.refresh.ensures in
    let line = rw c.fault_text.ensures at c.in-Ok-write_fault.ensures.told in
    let did = (rw (c.in-Err-Fault.field-0-is, c.state_now-state.ensures) at c.in-Err-Fault.ensures.does) in
    let old = g.S.Sink.told c.args.sink.now in
    let new = g.S.Sink.told c.write_fault.new.sink in
    subst (λ (u : World). Faulted {A = Turned} c.in-Err-Fault.fault c.in-Err-Fault.line (world_of c.try_state.new.memory.store) old new (turn_after s u)) fresh
    (told_fault-told s.name _ _ _ _ _ _ _ did line)

pub returns-in-Err-clause-does : goal.returns-in-Err-clause-does
returns-in-Err-clause-does g c =
    let s = set_on c.args.state_set.now in
    let w = world_of c.args.memory.now.store in
    let fresh : world_of c.refresh.new.store ≡ refreshed s.set w = c.refresh.ensures in
    let line = rw c.fault_text.ensures at c.in-Err.ensures.told in
    let did = (rw (c.in-Err-Fault.field-0-is, c.state_now-state.ensures) at c.in-Err-Fault.ensures.does) in
    let old = g.S.Sink.told c.args.sink.now in
    let new = g.S.Sink.told c.write_fault.new.sink in
    subst (λ (u : World). IsCutShort (text_of (turn_after s u)) old new) fresh
    (told_fault-cut s.name _ _ _ _ _ _ _ did line)

pub returns-in-Err-Sink-clause-does : goal.returns-in-Err-Sink-clause-does
returns-in-Err-Sink-clause-does g c =
    let s = set_on c.args.state_set.now in
    let w = world_of c.args.memory.now.store in
    let fresh : world_of c.refresh.new.store ≡ refreshed s.set w = c.refresh.ensures in
    let v = world_of c.refresh.new.store in
    let did = (rw (c.in-Err-Sink.field-0-is, c.state_now-state.ensures) at c.in-Err-Sink.ensures.does) in
    let old = g.S.Sink.told c.args.sink.now in
    let new = g.S.Sink.told c.try_state.new.sink in
    subst (λ (u : World). IsCutShort (text_of (turn_after s u)) old new) fresh
    (told_fault-cut_before s.name (tried s (copy_of s.set v).state v) _ _ did)

pub returns-in-Ok-clause-keeps : goal.returns-in-Ok-clause-keeps
returns-in-Ok-clause-keeps g c = record {
  frame = c.try_state.ensures.keeps.frame ∙ (ap frame_of c.refresh.ensures ∙ refreshed-same c.args.state_set.now.context.set (world_of c.args.memory.now.store));
  room = c.try_state.ensures.keeps.room;
  failures = search rules;
}

pub returns-in-Err-Sink-clause-keeps : goal.returns-in-Err-Sink-clause-keeps
returns-in-Err-Sink-clause-keeps g c = record {
  frame = c.try_state.ensures.keeps.frame ∙ (ap frame_of c.refresh.ensures ∙ refreshed-same c.args.state_set.now.context.set (world_of c.args.memory.now.store));
  room = c.try_state.ensures.keeps.room;
  failures = search rules;
}

pub returns-in-Ok-write_fault-clause-keeps : goal.returns-in-Ok-write_fault-clause-keeps
returns-in-Ok-write_fault-clause-keeps g c = record {
  frame = c.try_state.ensures.keeps.frame ∙ (ap frame_of c.refresh.ensures ∙ refreshed-same c.args.state_set.now.context.set (world_of c.args.memory.now.store));
  room = c.try_state.ensures.keeps.room;
  failures = search rules;
}

pub returns-in-Err-clause-keeps : goal.returns-in-Err-clause-keeps
returns-in-Err-clause-keeps g c = record {
  frame = c.try_state.ensures.keeps.frame ∙ (ap frame_of c.refresh.ensures ∙ refreshed-same c.args.state_set.now.context.set (world_of c.args.memory.now.store));
  room = c.try_state.ensures.keeps.room;
  failures = search rules;
}
